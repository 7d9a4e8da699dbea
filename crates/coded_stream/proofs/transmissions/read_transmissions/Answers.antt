use Rattle.std.proofs.Common.{◌≡◌, ℕ, ◌+◌, ◌-◌, ◌≤◌, List, ◌++◌, length, take, slice_get, Some, ap, sym, subst, ◌∙◌, arith}
use Rattle.std.proofs.lemmas.List.{take_all, length-take-le}
use Rattle.std.proofs.lemmas.Slice.{take-put_mid}
use borrow.Rule.Slice.PartMut.{put_mid}
use Rattle.std.proofs.lemmas.Grind.{common_steps}
use Rattle.std.proofs.lemmas.Result.{err_from_is_err_and}
use Rattle.edge_io.proofs.Known.{takes_bytes_then}
use Rattle.coded_stream.specs.Blocks.{lengths, block_size, transmission_size, AreTransmissions}
use Rattle.coded_stream.specs.Shown.{header_of}
use Rattle.coded_stream.specs.declared.kind.Kind.{Kind}
use Rattle.coded_stream.proofs.Sizes.{size-bounded}
use Rattle.coded_stream.proofs.Turns.{IsTurn, turn-is, lengths-long}
use Rattle.coded_stream.proofs.Sent.{IsMidway, AreTransmissions-more}
use Rattle.coded_stream.proofs.Midway.{midway-more, midway-stops, midway-done}
use Rattle.coded_stream.proofs.transmissions.read_transmissions.Goals as goal

-- what is read at a turn is within the block, after what was read before
record IsHere (kind : Kind) (gs : List ℕ) (turn g read size : ℕ) (into : List ℕ) : Type 0 where
  turn_is : IsTurn kind gs turn g
  room : read + size ≤ length into
  before : length (take read into) ≡ read

here : (kind : Kind) (gs : List ℕ) (turn g read size : ℕ) (into : List ℕ) → slice_get gs turn ≡ Some g → read ≡ block_size kind (take turn gs) → size ≡ transmission_size kind g →
    length into ≡ block_size kind gs → IsHere kind gs turn g read size into
here kind gs turn g read size into g_is read_is size_is long =
    let t = turn-is kind gs turn g g_is in
    let room : read + size ≤ length into = (let e = t.within in omega (arith, e, read_is, size_is, long)) in
    record { turn_is = t; room = room; before = length-take-le read into (omega (arith, room)) }

pub slice_bounds-read_transmission-end : goal.slice_bounds-read_transmission-end
slice_bounds-read_transmission-end g c =
    let h = c.args.header.now in
    let gs : List ℕ = lengths (header_of h) in
    (here h.kind gs c.loop-turn.turn c.length_at-g.result c.loop-turn.read c.transmission_size-size.result c.loop-turn.into c.length_at-g.ensures.value c.loop-turn.invariant.read
    c.transmission_size-size.ensures (c.loop-turn.auto.into ∙ c.requires.size)).room

pub read_transmission-requires-clause-place : goal.read_transmission-requires-clause-place
read_transmission-requires-clause-place g c =
    let h = c.args.header.now in
    let gs : List ℕ = lengths (header_of h) in
    let t = here h.kind gs c.loop-turn.turn c.length_at-g.result c.loop-turn.read c.transmission_size-size.result c.loop-turn.into c.length_at-g.ensures.value c.loop-turn.invariant.read
    c.transmission_size-size.ensures (c.loop-turn.auto.into ∙ c.requires.size) in
    let room = t.room in grind (arith, common_steps, room)

pub returns-in_err-read_transmission-clause-told : goal.returns-in_err-read_transmission-clause-told
returns-in_err-read_transmission-clause-told g c payload input is =
    let h = c.args.header.now in
    let gs : List ℕ = lengths (header_of h) in
    let t = here h.kind gs c.loop-turn.turn c.length_at-g.result c.loop-turn.read c.transmission_size-size.result c.loop-turn.into c.length_at-g.ensures.value c.loop-turn.invariant.read
    c.transmission_size-size.ensures (c.loop-turn.auto.into ∙ c.requires.size) in
    let long : length c.read_transmission.new.bytes ≡ transmission_size h.kind c.length_at-g.result = omega (arith, c.read_transmission.auto.bytes, c.transmission_size-size.ensures) in
    let some = (size-bounded h.kind c.length_at-g.result (record { some = c.length_at-g.ensures.some; few = c.length_at-g.ensures.few })).some in
    let p = err_from_is_err_and c.from_residual.result c.from_residual.ensures.1 in
    rw (p.1, p.2)
    (midway-stops h.kind c.args.start payload c.length_at-g.result c.loop-turn.turn _ gs (take c.loop-turn.read c.loop-turn.into) c.read_transmission.new.bytes input _ _ _ _
    (c.loop-turn.invariant.told payload input is) t.turn_is is long (omega (arith, long, some)) (omega (arith, t.before)) c.in_err-read_transmission.ensures.bytes)

pub loop-turn-preserved : goal.loop-turn-preserved
loop-turn-preserved g c =
    let h = c.args.header.now in
    let gs : List ℕ = lengths (header_of h) in
    let turn : ℕ = c.loop-turn.turn in
    let size : ℕ = c.transmission_size-size.result in
    let into = c.loop-turn.into in
    let read : ℕ = c.loop-turn.read in
    let unit = c.read_transmission.new.bytes in
    let before = c.loop-turn.invariant in
    let t = here h.kind gs turn c.length_at-g.result read size into c.length_at-g.ensures.value before.read c.transmission_size-size.ensures (c.loop-turn.auto.into ∙ c.requires.size) in
    let unit_long : length unit ≡ transmission_size h.kind c.length_at-g.result = omega (arith, c.read_transmission.auto.bytes, c.transmission_size-size.ensures) in
    let front : take (read + size) (put_mid read (read + size - read) into unit) ≡ take read into ++ unit =
    take-put_mid read (read + size - read) into unit (read + size) (omega (arith, unit_long, c.transmission_size-size.ensures)) (omega (arith, t.room)) in
    let took = c.in_ok-read_transmission.ensures.bytes in
    let P : List ℕ → Type 0 = λ hs. AreTransmissions h.kind hs (take read into ++ unit) in
    record {
      read = ap (λ (n : ℕ). n + size) before.read ∙ ap (λ (n : ℕ). block_size h.kind (take turn gs) + n) c.transmission_size-size.ensures ∙ sym t.turn_is.size;
      told = λ payload input is. rw front
          (midway-more h.kind c.args.start payload c.length_at-g.result turn gs (take read into) unit input _ _ (before.told payload input is) t.turn_is took.0 unit_long took.1);
      taken = rw front (subst P (sym t.turn_is.front)
          (AreTransmissions-more h.kind (take turn gs) c.length_at-g.result (take read into) unit before.taken (record { size = unit_long; good = took.1 })));
      moved = takes_bytes_then _ _ _ before.moved c.read_transmission.ensures.moved;
      later = omega (arith, before.later, c.read_transmission.ensures.later);
    }

-- after the last turn all of the block was read
record IsDone (kind : Kind) (gs : List ℕ) (turn read : ℕ) (into : List ℕ) : Type 0 where
  is : turn ≡ length gs
  all : take turn gs ≡ gs
  whole : take read into ≡ into

done : (kind : Kind) (gs : List ℕ) (turn count read : ℕ) (into : List ℕ) → turn ≤ count → count ≤ turn → count ≡ length gs → read ≡ block_size kind (take turn gs) → length into ≡ block_size kind gs →
    IsDone kind gs turn read into
done kind gs turn count read into le ge count_is read_is long =
    let is : turn ≡ length gs = omega (arith, le, ge, count_is) in
    let all : take turn gs ≡ gs = take_all turn gs (omega (arith, is)) in
    record { is = is; all = all; whole = take_all read into (omega (arith, long, read_is, ap (block_size kind) all)) }

pub returns-clause-told : goal.returns-clause-told
returns-clause-told g c payload input is =
    let h = c.args.header.now in
    let gs : List ℕ = lengths (header_of h) in
    let turn : ℕ = c.loop-turn.turn in
    let into = c.loop-turn.into in
    let end = done h.kind gs turn c.len-turn-end.result c.loop-turn.read into c.loop-turn.auto.turn-end c.loop-turn-test.false (c.len-turn-end.ensures.value ∙ sym (lengths-long h.sends))
    c.loop-turn.invariant.read (c.loop-turn.auto.into ∙ c.requires.size) in
    let P : ℕ → Type 0 = λ n. IsMidway h.kind c.args.start payload gs n into input (g.S.Source.left c.loop-turn.source) in
    let Q : List ℕ → Type 0 = λ xs. IsMidway h.kind c.args.start payload gs turn xs input (g.S.Source.left c.loop-turn.source) in
    midway-done h.kind c.args.start payload gs into input _ _ (subst P end.is (subst Q end.whole (c.loop-turn.invariant.told payload input is))) is

pub returns-clause-sent : goal.returns-clause-sent
returns-clause-sent g c =
    let h = c.args.header.now in
    let gs : List ℕ = lengths (header_of h) in
    let turn : ℕ = c.loop-turn.turn in
    let into = c.loop-turn.into in
    let end = done h.kind gs turn c.len-turn-end.result c.loop-turn.read into c.loop-turn.auto.turn-end c.loop-turn-test.false (c.len-turn-end.ensures.value ∙ sym (lengths-long h.sends))
    c.loop-turn.invariant.read (c.loop-turn.auto.into ∙ c.requires.size) in
    let P : List ℕ → Type 0 = λ hs. AreTransmissions h.kind hs into in
    let Q : List ℕ → Type 0 = λ xs. AreTransmissions h.kind (take turn gs) xs in
    subst P end.all (subst Q end.whole c.loop-turn.invariant.taken)

pub returns-in_err-read_transmission-clause-moved : goal.returns-in_err-read_transmission-clause-moved
returns-in_err-read_transmission-clause-moved g c = takes_bytes_then _ _ _ c.loop-turn.invariant.moved c.read_transmission.ensures.moved
