use Rattle.std.proofs.Common.{rules, arith, refl, ap, subst, ◌∙◌, ◌+◌}
use Rattle.phase_board.specs.ClaimWord.{drawn_of}
use Rattle.phase_board.specs.Steps.{IsFor}
use Rattle.phase_board.proofs.Carried.{front}
use Rattle.phase_board.proofs.Looks.{looks}
use Rattle.phase_board.proofs.Exchanges.{exchanges}
use Rattle.phase_board.proofs.board.Board.claim.Goals as goal

pub load-word-requires : goal.load-word-requires
load-word-requires g c = (
  c.requires.0,
  search rules,
  looks _ _ _ _ _ _ _ _ _ c.requires.1 c.args.seat.rests.1,
)

pub compare_exchange-found-requires : goal.compare_exchange-found-requires
compare_exchange-found-requires g c =
    let e = c.load-word.ensures in let t = e.2 in let view = ap (λ m. m.0) t.0 in let facts = subst (IsFor _) c.requires.1 t.2 in let size = c.args.self.now.sized in (
      e.0 ∙ c.requires.0,
      search rules,
      exchanges _ _ _ _ _ _ _ _ _ _ _ (ap (λ v. v.job) view ∙ c.requires.1) (ap (λ v. v.activity) view ∙ c.args.seat.rests.1) (ap (λ m. m.1) t.0 ∙ c.args.seat.rests.0) (ap (λ v. v.loaded) view)
          (ap (λ v. v.found) view)
          c.if-word-ge-STOPPED.false (λ same. c.if-drawn-self.false (let a = facts.0 in let b = size.1 in omega arith)) refl,
    )

pub exchange-requires : goal.exchange-requires
exchange-requires g c =
    let e = c.load-word.ensures in let t = e.2 in let f = c.compare_exchange-found.ensures in let job = ap (λ m. m.0.job) t.0 ∙ c.requires.1 in
    let told = subst (IsFor _) job f.2 in let drew = told.0 c.if-found-word.false in (
      f.0 ∙ (e.0 ∙ c.requires.0),
      (_, front _ _ _ _ _ (ap (λ m. m.1) drew.1) (ap (λ m. drawn_of m.0.loaded + 1) t.0)),
    )
