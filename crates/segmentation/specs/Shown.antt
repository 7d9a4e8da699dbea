-- What contracts see of a `Plan`.
use Rattle.model_sender.specs.Segmentation.{Plan}
use Rattle.segmentation.specs.declared.plans.Plan.TheInside.{Inside}
use Rattle.segmentation.specs.Plans.{IsPlan}

abbrev pub shown : Inside → Plan
shown p =
    record {
      bytes = p.bytes;
      c = p.c;
      k_plus = p.k_plus;
      k_minus = p.k_minus;
      c_plus = p.c_plus;
      c_minus = p.c_minus;
      f = p.f;
    }

abbrev pub hidden : Plan → Inside
hidden p =
    record {
      bytes = p.bytes;
      c = p.c;
      k_plus = p.k_plus;
      k_minus = p.k_minus;
      c_plus = p.c_plus;
      c_minus = p.c_minus;
      f = p.f;
    }

abbrev pub IsKept : Inside → Type 0
IsKept p = IsPlan (shown p)
