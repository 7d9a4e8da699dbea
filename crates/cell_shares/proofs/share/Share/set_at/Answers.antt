use Rattle.std.proofs.Common.{◌∙◌, sym, ap}
use Rattle.cell_shares.specs.Parts.{places}
use Rattle.cell_shares.proofs.Changed.{changed-places}
use Rattle.cell_shares.proofs.share.Share.set_at.Goals as goal

pub invariant_of-self : goal.invariant_of-self
invariant_of-self g c =
    let s = c.args.self.now in let e = c.set.ensures in record {
      dealt = ap places e.2 ∙ (changed-places s.part.cells c.args.j c.args.v ∙ s.dealt);
      counted = s.counted ∙ sym e.1;
      begins = s.begins;
      numbered = s.numbered;
      frees = (λ r is. let f = s.frees.0 r is in (f.0, (f.1.0 ∙ sym e.0, f.1.1, f.1.2)), s.frees.1);
    }
