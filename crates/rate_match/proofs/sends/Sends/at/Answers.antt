use Rattle.std.proofs.Common.{◌≡◌, List, length, take, Some, refl, ap, subst, arith}
use Rattle.std.specs.List.{slice_get}
use Rattle.std.proofs.lemmas.Option.{slice_get_read}
use Rattle.rate_match.specs.declared.sends.Sending.{Sending}
use Rattle.rate_match.proofs.sends.Sends.at.Goals as goal

pub returns-clause-value : goal.returns-clause-value
returns-clause-value c =
    let held : List Sending = take c.self.inside.held c.self.inside.values in
    let x : Sending = c.index-self-i.result in
    subst (λ (s : List Sending). slice_get s c.args.i ≡ Some x) c.self.view_is
    (slice_get_read held (length held) c.args.i x refl (omega (arith, c.requires, ap length c.self.view_is)) c.index-self-i.is)
