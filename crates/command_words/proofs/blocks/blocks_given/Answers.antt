use Rattle.std.proofs.Common.{◌≡◌, ℕ, ◌≤◌, true, false, List, length, Some, Ok, ap, sym, subst, ◌∙◌, slice_index}
use Rattle.std.specs.declared.option.Option.{Option}
use Rattle.std.specs.declared.result.Result.{Result}
use Rattle.std.specs.List.{list_all, slice_get}
use Rattle.rate_match.specs.Fitting.{fits_all}
use Rattle.rate_match.specs.declared.sends.Sending.{Sending}
use Rattle.coded_stream.specs.Limit.{is_limit}
use Rattle.coded_stream.specs.Header.{AreHeld}
use Rattle.coded_stream.specs.declared.version.Version.{Version}
use Rattle.command_words.specs.Operands.{only}
use Rattle.command_words.specs.Refusals.{refused}
use Rattle.command_words.specs.Rules.{in_range}
use Rattle.command_words.specs.Tables.{lengths, limits}
use Rattle.command_words.specs.Transmissions.{place_of, uneven_list, transmissions, is_multiple, limit_in, version_in}
use Rattle.command_words.specs.declared.blocks.CodedBlocks.{CodedBlocks}
use Rattle.command_words.specs.declared.operands.WordRefusal.{WordRefusal}
use Rattle.command_words.specs.declared.transmissions.Asked.{Asked}
use Rattle.command_words.proofs.Asked.{accepted, unfit, all_sent, limit_at_first, held_of, lengths_of, limit_of_range}
use Rattle.command_words.proofs.Ranged.{ranged_at}
use Rattle.command_words.proofs.TransmissionsAsked.{same_limit}
use Rattle.command_words.proofs.blocks.blocks_given.Goals as goal

abbrev blocks_of : (version : Version) (tb : ℕ) (sends : List Sending) → Result CodedBlocks WordRefusal
blocks_of version tb sends = Ok (record { version = version; tb = tb; sends = sends })

-- the soft buffer of the first transmission
limit_here : (a : Asked) (sends : List Sending) (s : Sending) → 1 ≤ length a.rv.numbers → sends ≡ transmissions a → slice_get sends 0 ≡ Some s → s.m.limit ≡ limit_in a
limit_here a sends s some is at = limit_at_first a (length a.rv.numbers) s some (ap (λ (xs : List Sending). slice_get xs 0) (sym is) ∙ at)

pub returns-then-fits-clause-blocks : goal.returns-then-fits-clause-blocks
returns-then-fits-clause-blocks c =
    let a = c.args.asked.now in
    let sent = all_sent (list_all is_multiple (transmissions a)) c.in-Some-transmissions_given.sends (transmissions a) c.in-Some-transmissions_given.ensures in
    let s : Sending = record { m = c.at.result.0; rv = c.at.result.1 } in
    let limit = limit_here a c.in-Some-transmissions_given.sends s c.requires.rv.some sent.1 c.at.ensures.value in
    let fits : fits_all (limit_in a) (only a.tb) ≡ true =
    ap (λ (o : Option ℕ). fits_all o (only a.tb)) (sym limit) ∙ ap (λ n. fits_all s.m.limit n) (sym c.at-tb.ensures) ∙ sym c.fits.ensures.test ∙ c.if-fits.true in
    ap (λ (v : Version). blocks_of v c.at-tb.result c.in-Some-transmissions_given.sends) c.version.ensures
    ∙ ap (λ n. blocks_of (version_in a.lists) n c.in-Some-transmissions_given.sends) c.at-tb.ensures
    ∙ ap (λ (xs : List Sending). blocks_of (version_in a.lists) (only a.tb) xs) sent.1
    ∙ sym (accepted (place_of (uneven_list (length a.rv.numbers) a.lists)) (list_all is_multiple (transmissions a)) (fits_all (limit_in a) (only a.tb)) (refused 7 a.lists.g.place)
    (refused 8 a.nir.place) (blocks_of (version_in a.lists) (only a.tb) (transmissions a)) (c.in_default.ensures ∙ ap (λ n. place_of (uneven_list n a.lists)) c.len.ensures) sent.0 fits)

pub returns-else-fits-clause-blocks : goal.returns-else-fits-clause-blocks
returns-else-fits-clause-blocks c =
    let a = c.args.asked.now in
    let sent = all_sent (list_all is_multiple (transmissions a)) c.in-Some-transmissions_given.sends (transmissions a) c.in-Some-transmissions_given.ensures in
    let s : Sending = record { m = c.at.result.0; rv = c.at.result.1 } in
    let limit = limit_here a c.in-Some-transmissions_given.sends s c.requires.rv.some sent.1 c.at.ensures.value in
    let fits : fits_all (limit_in a) (only a.tb) ≡ false =
    ap (λ (o : Option ℕ). fits_all o (only a.tb)) (sym limit) ∙ ap (λ n. fits_all s.m.limit n) (sym c.at-tb.ensures) ∙ sym c.fits.ensures.test ∙ c.if-fits.false in
    sym (unfit (place_of (uneven_list (length a.rv.numbers) a.lists)) (list_all is_multiple (transmissions a)) (fits_all (limit_in a) (only a.tb)) (refused 7 a.lists.g.place) (refused 8 a.nir.place)
    (blocks_of (version_in a.lists) (only a.tb) (transmissions a)) (c.in_default.ensures ∙ ap (λ n. place_of (uneven_list n a.lists)) c.len.ensures) sent.0 fits)

pub returns-then-fits-clause-fit : goal.returns-then-fits-clause-fit
returns-then-fits-clause-fit c =
    let a = c.args.asked.now in
    let sends = c.in-Some-transmissions_given.sends in
    let sent = all_sent (list_all is_multiple (transmissions a)) sends (transmissions a) c.in-Some-transmissions_given.ensures in
    let s : Sending = record { m = c.at.result.0; rv = c.at.result.1 } in
    let some = c.requires.rv.some in
    let limit = limit_here a sends s some sent.1 c.at.ensures.value in
    let shared = same_limit a (length a.rv.numbers) sends some sent.1 in
    let tb : in_range lengths c.at-tb.result ≡ true = ap (in_range lengths) c.at-tb.ensures ∙ ranged_at (in_range lengths) a.tb.numbers 0 c.requires.tb.ranged c.requires.tb.some in
    let bounds = lengths_of c.at-tb.result tb in
    record {
      some = bounds.0;
      few = bounds.1;
      sent = c.at.ensures.lawful;
      limited = ap is_limit (sym shared) ∙ limit_of_range (slice_index a.nir.numbers 0) (ranged_at (in_range limits) a.nir.numbers 0 c.requires.nir.ranged c.requires.nir.some);
      fits = ap (λ (o : Option ℕ). fits_all o c.at-tb.result) (sym shared ∙ sym limit) ∙ sym c.fits.ensures.test ∙ c.if-fits.true;
    }

pub returns-then-fits-clause-held : goal.returns-then-fits-clause-held
returns-then-fits-clause-held c =
    let a = c.args.asked.now in
    let sends = c.in-Some-transmissions_given.sends in
    let sent = all_sent (list_all is_multiple (transmissions a)) sends (transmissions a) c.in-Some-transmissions_given.ensures in
    let P : Version → Type 0 = λ v. AreHeld v sends in
    subst P (sym c.version.ensures) (held_of a (length a.rv.numbers) sends c.requires.rv.some sent.1)
