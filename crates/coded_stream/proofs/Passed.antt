-- What it tells that all fields of a header's first unit pass.
use Rattle.std.proofs.Common.{◌≡◌, ℕ, ◌≤◌, ◌==◌, Bool, true, false, cond, ◌||◌, nat_le, List, [], ◌∷◌, ◌++◌, slice_index, Some, None, refl, sym, ap, ◌∙◌}
use Rattle.std.proofs.lemmas.Bool.{and_parts, leb-true, eqb-true}
use Rattle.rate_match.specs.Fitting.{fits_all}
use Rattle.coded_stream.specs.Limit.{is_limit}
use Rattle.coded_stream.specs.Header.{word, magic, kind_code, kind_of}
use Rattle.coded_stream.specs.Units.{Refusal, refused_at}
use Rattle.coded_stream.specs.Opening.{Check, first_refusal, first_size, is_wanted, count_in, tb_in, limit_in, fields}
use Rattle.coded_stream.specs.Fields.{IsFirst, AreRefused}
use Rattle.coded_stream.specs.declared.stop.StreamStop.{StreamStop}
use Rattle.coded_stream.specs.declared.stop.StreamStop.TheVariants.{Bad, Fault, NoMemory}
use Rattle.coded_stream.specs.declared.version.Version.{Version}
use Rattle.coded_stream.specs.declared.version.Version.TheVariants.{One, Two}
use Rattle.coded_stream.specs.declared.kind.Kind.{Kind}
use Rattle.coded_stream.specs.declared.kind.Kind.TheVariants as kind
use Rattle.coded_stream.specs.declared.kind.Want.{Want}
use Rattle.coded_stream.specs.declared.kind.Want.TheVariants.{Hard, Soft, Any}

abbrev pub AllPass : List Check → Type 0
AllPass [] = Unit {0}
AllPass (c ∷ cs) = (c.passes ≡ true) × AllPass cs

-- where none is refused, all pass
pub all_pass : (size : ℕ) (cs : List Check) → first_refusal size cs ≡ None → AllPass cs
all_pass size [] e = tt
all_pass size (c ∷ cs) e = by_test (all_pass size cs) c.passes refl e
  where
    by_test : (first_refusal size cs ≡ None → AllPass cs) → (t : Bool) → c.passes ≡ t → cond t (first_refusal size cs) (Some (refused_at c.number c.place size)) ≡ None → (c.passes ≡ true) × AllPass cs
    by_test rest true is e = (is, rest e)
    by_test rest false is e = absurd (let no : ⊥ = cc in no)

-- and where all pass, none is refused
pub none_refused : (size : ℕ) (cs : List Check) → AllPass cs → first_refusal size cs ≡ None
none_refused size [] pass = refl
none_refused size (c ∷ cs) (first, rest) = ap (λ (t : Bool). cond t (first_refusal size cs) (Some (refused_at c.number c.place size))) first ∙ none_refused size cs rest

-- ---- checks after others

pub pass_first : (xs ys : List Check) → AllPass (xs ++ ys) → AllPass xs
pass_first [] ys all = tt
pass_first (x ∷ xs) ys (here, all) = (here, pass_first xs ys all)

pub pass_rest : (xs ys : List Check) → AllPass (xs ++ ys) → AllPass ys
pass_rest [] ys all = all
pass_rest (x ∷ xs) ys (here, all) = pass_rest xs ys all

pub pass_both : (xs ys : List Check) → AllPass xs → AllPass ys → AllPass (xs ++ ys)
pass_both [] ys none all = all
pass_both (x ∷ xs) ys (here, others) all = (here, pass_both xs ys others all)

pub refused_after_pass : (size : ℕ) (xs ys : List Check) → AllPass xs → first_refusal size (xs ++ ys) ≡ first_refusal size ys
refused_after_pass size [] ys pass = refl
refused_after_pass size (x ∷ xs) ys (here, others) =
    ap (λ (t : Bool). cond t (first_refusal size (xs ++ ys)) (Some (refused_at x.number x.place size))) here ∙ refused_after_pass size xs ys others

pub refused_first : (size : ℕ) (xs ys : List Check) (r : Refusal) → first_refusal size xs ≡ Some r → first_refusal size (xs ++ ys) ≡ Some r
refused_first size [] ys r e = absurd (let no : ⊥ = cc in no)
refused_first size (x ∷ xs) ys r e = by_test x.passes (refused_first size xs ys r) e
  where
    by_test : (t : Bool) → (first_refusal size xs ≡ Some r → first_refusal size (xs ++ ys) ≡ Some r)
        → cond t (first_refusal size xs) (Some (refused_at x.number x.place size)) ≡ Some r
        → cond t (first_refusal size (xs ++ ys)) (Some (refused_at x.number x.place size)) ≡ Some r
    by_test true rest e = rest e
    by_test false rest e = e

-- the first of them that is refused is so too where others follow
pub refused_front : (xs ys : List Check) (stop : StreamStop) → AreRefused xs stop → AreRefused (xs ++ ys) stop
refused_front xs ys (Bad number place) refused = λ size. refused_first size xs ys (refused_at number place size) (refused size)
refused_front xs ys Fault none = absurd none
refused_front xs ys NoMemory none = absurd none

-- where checks are refused as others are
pub refused_as : (xs ys : List Check) (stop : StreamStop) → ((size : ℕ) → first_refusal size xs ≡ first_refusal size ys) → AreRefused ys stop → AreRefused xs stop
refused_as xs ys (Bad number place) same refused = λ size. same size ∙ refused size
refused_as xs ys Fault same none = absurd none
refused_as xs ys NoMemory same none = absurd none

-- ---- the kind

or_parts : (t u : Bool) (P : Type 0) → (t ≡ true → P) → (u ≡ true → P) → (t || u) ≡ true → P
or_parts true u P first second e = first refl
or_parts false u P first second e = second e

hard-code : (code : ℕ) → (code == 0) ≡ true → kind_code (kind_of code) ≡ code
hard-code code e = let is : code ≡ 0 = eqb-true code 0 e in ap (λ (n : ℕ). kind_code (kind_of n)) is ∙ sym is

soft-code : (code : ℕ) → (code == 1) ≡ true → kind_code (kind_of code) ≡ code
soft-code code e = let is : code ≡ 1 = eqb-true code 1 e in ap (λ (n : ℕ). kind_code (kind_of n)) is ∙ sym is

-- the code is that of the kind that it means
pub code-of_kind : (want : Want) (code : ℕ) → is_wanted want code ≡ true → kind_code (kind_of code) ≡ code
code-of_kind Hard code e = hard-code code e
code-of_kind Soft code e = soft-code code e
code-of_kind Any code e = or_parts (code == 0) (code == 1) (kind_code (kind_of code) ≡ code) (hard-code code) (soft-code code) e

pub kind-of_code : (k : Kind) (code : ℕ) → kind_code k ≡ code → kind_of code ≡ k
kind-of_code kind.Hard code is = sym (ap kind_of is)
kind-of_code kind.Soft code is = sym (ap kind_of is)

pub any-kind : (k : Kind) → is_wanted Any (kind_code k) ≡ true
any-kind kind.Hard = refl
any-kind kind.Soft = refl

-- ---- the first unit

pub record ArePassed (v : Version) (want : Want) (unit : List ℕ) : Type 0 where
  pub first : word unit 0 ≡ magic v
  pub kind : is_wanted want (slice_index unit 4) ≡ true
  pub sent : 1 ≤ count_in v unit
  pub most : count_in v unit ≤ 8
  pub some : 1 ≤ tb_in v unit
  pub few : tb_in v unit ≤ 18722
  pub matching : IsFirst v unit
  pub limited : is_limit (limit_in v unit) ≡ true
  pub fits : fits_all (limit_in v unit) (tb_in v unit) ≡ true

pub fields-passed : (v : Version) (want : Want) (unit : List ℕ) → first_refusal (first_size v) (fields v want unit) ≡ None → ArePassed v want unit
fields-passed One want unit e =
    let all = all_pass 18 (fields One want unit) e in
    let sizes = all.1.1.1.1 in
    let count = and_parts (nat_le 1 (count_in One unit)) (nat_le (count_in One unit) 8) sizes.0 in
    let tb = and_parts (nat_le 1 (tb_in One unit)) (nat_le (tb_in One unit) 18722) sizes.1.0 in
    let limit = and_parts (is_limit (limit_in One unit)) (fits_all (limit_in One unit) (tb_in One unit)) sizes.1.1.1.0 in
    record {
      first = eqb-true (word unit 0) (magic One) all.0;
      kind = all.1.0;
      sent = leb-true 1 (count_in One unit) count.0;
      most = leb-true (count_in One unit) 8 count.1;
      some = leb-true 1 (tb_in One unit) tb.0;
      few = leb-true (tb_in One unit) 18722 tb.1;
      matching = record { qm = all.1.1.0; nl = all.1.1.1.0; g = sizes.1.1.0 };
      limited = limit.0;
      fits = limit.1;
    }
fields-passed Two want unit e =
    let all = all_pass 12 (fields Two want unit) e in
    let sizes = all.1.1 in
    let count = and_parts (nat_le 1 (count_in Two unit)) (nat_le (count_in Two unit) 8) sizes.0 in
    let tb = and_parts (nat_le 1 (tb_in Two unit)) (nat_le (tb_in Two unit) 18722) sizes.1.0 in
    let limit = and_parts (is_limit (limit_in Two unit)) (fits_all (limit_in Two unit) (tb_in Two unit)) sizes.1.1.0 in
    record {
      first = eqb-true (word unit 0) (magic Two) all.0;
      kind = all.1.0;
      sent = leb-true 1 (count_in Two unit) count.0;
      most = leb-true (count_in Two unit) 8 count.1;
      some = leb-true 1 (tb_in Two unit) tb.0;
      few = leb-true (tb_in Two unit) 18722 tb.1;
      matching = tt;
      limited = limit.0;
      fits = limit.1;
    }
