use Rattle.std.proofs.Common.{◌≡◌, ◌≢◌, ◌+◌, ◌%◌, ◌<◌, ℕ, length, get_or-set_other, get_or-set_same, sym, ap, ◌∙◌, inl, inr, arith}
use Rattle.std.proofs.lemmas.Bool.{cases_lt}
use Rattle.model_sender.specs.Interleaver.{place}
use Rattle.model_sender.proofs.RowLaws.{range-of_size}
use Rattle.turbo_encode.proofs.addresses.write_further.Goals as goal

pub overflow_cast-k : goal.overflow_cast-k
overflow_cast-k c = let range = range-of_size (length c.args.places.now) c.requires.size in omega (arith, range.1)

pub overflow_cast-apart : goal.overflow_cast-apart
overflow_cast-apart c = let range = range-of_size (length c.args.places.now) c.requires.size in omega (arith, range.1, c.requires.apart)

pub further-requires-clause-few : goal.further-requires-clause-few
further-requires-clause-few c = let range = range-of_size (length c.args.places.now) c.requires.size in omega (arith, range.1)

pub loop-i-preserved : goal.loop-i-preserved
loop-i-preserved c =
    let k : ℕ = length c.args.places.now in
    let loop = c.loop-i in
    let i : ℕ = loop.i in
    let count : ℕ = c.args.count in
    let below : i < count = c.loop-i-test.true in
    let new : c.further.result ≡ place k (count + i) =
    c.further.ensures ∙ ap (λ n. (n + c.args.apart) % k) (loop.invariant i (omega (arith, below))) ∙ sym (c.requires.further i) in
    λ j h. elim (cases_lt j (count + i)) [
      | inl before ↦ let ne : j ≢ count + i = omega (arith, before) in rw get_or-set_other (loop.invariant j before)
      | inr now ↦
          let same : j ≡ count + i = omega (arith, now, h) in
          let lt : count + i < length loop.places = omega (arith, below, loop.auto.places, c.requires.room) in
          rw same (rw get_or-set_same new)
    ]
