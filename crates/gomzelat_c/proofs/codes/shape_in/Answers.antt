use Rattle.std.proofs.Common.{◌≡◌, ℕ, subst, sym, ap, ◌∙◌}
use Rattle.std.specs.Prelude.{IfSome}
use Rattle.model_receiver.specs.HalfIteration.{shape_of}
use Rattle.block_receive.proofs.LawfulShapes.{IsCount, windows-are}
use Rattle.gomzelat_c.specs.Codes.{kind_of}
use Rattle.gomzelat_c.proofs.OneShape.{shape_lawful}
use Rattle.gomzelat_c.proofs.codes.shape_in.Goals as goal

pub unwrap-requires : goal.unwrap-requires
unwrap-requires c =
    let w = c.win-windows.ensures in
    let code = c.args.code.now in
    let count : IsCount code.k c.args.windows c.win-windows.result = record { divides = w.divides; wide = w.wide; within = w.within; greatest = w.greatest } in
    c.new.ensures.some.1 (shape_lawful code.k code.fill c.check_kind-kind.result c.args.windows c.args.limit c.win-windows.result c.requires.size c.requires.fillers
    c.requires.some_windows c.requires.few_windows c.requires.some_iterations c.requires.few_iterations count)

pub returns : goal.returns
returns c =
    let w = c.win-windows.ensures in
    let code = c.args.code.now in
    let limit : ℕ = c.args.limit in
    let d : ℕ = c.win-windows.result in
    let count : IsCount code.k c.args.windows d = record { divides = w.divides; wide = w.wide; within = w.within; greatest = w.greatest } in
    let is : c.unwrap.result ≡ shape_of code.k code.fill c.check_kind-kind.result d limit =
    subst (λ o. IfSome o (λ s. s ≡ shape_of code.k code.fill c.check_kind-kind.result d limit)) c.unwrap.ensures c.new.ensures.shape in
    is
    ∙ ap (λ kind. shape_of code.k code.fill kind d limit) c.check_kind-kind.ensures
    ∙ ap (λ (n : ℕ). shape_of code.k code.fill (kind_of code.check) n limit) (sym (windows-are code.k c.args.windows d c.requires.size c.requires.some_windows count))
