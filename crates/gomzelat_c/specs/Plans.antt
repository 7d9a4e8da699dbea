-- What is told of a plan.
use Rattle.model_sender.specs.Segmentation as model
use Rattle.gomzelat_c.specs.declared.plans.Plan.{Plan}

abbrev pub numbers : model.Plan → Plan
numbers p = record {
  c = p.c;
  k_plus = p.k_plus;
  k_minus = p.k_minus;
  c_plus = p.c_plus;
  c_minus = p.c_minus;
  f = p.f;
}
