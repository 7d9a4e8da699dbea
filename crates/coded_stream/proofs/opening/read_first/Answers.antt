use Rattle.std.proofs.Common.{◌≡◌, ℕ, ◌-◌, ◌≤◌, List, [], ◌++◌, length, take, drop, refl, ap, sym, subst, ◌∙◌, append_assoc, arith}
use Rattle.std.proofs.lemmas.List.{length-append, length-take-le, length-drop}
use Rattle.std.proofs.lemmas.Result.{err_from_is_err_and}
use Rattle.std.proofs.lemmas.Slice.{take-put_mid}
use borrow.Rule.Slice.PartMut.{put_mid}
use Rattle.edge_io.specs.Edge.{Takes}
use Rattle.edge_io.proofs.Known.{takes_bytes_then, takes_none, takes_then}
use Rattle.edge_io.proofs.Told.{told_rest}
use Rattle.coded_stream.specs.Opening.{version_of, first_size}
use Rattle.coded_stream.specs.declared.version.Version.{Version}
use Rattle.coded_stream.proofs.Fronts.{take_front}
use Rattle.coded_stream.proofs.OpeningSteps.{version-front, first-most, first-stops}
use Rattle.coded_stream.proofs.opening.read_first.Goals as goal

-- the first four bytes, the version that they tell, and how many more its first unit has
record AreFirst (version : Version) (size : ℕ) (unit whole rest : List ℕ) : Type 0 where
  long : length unit ≡ 4
  is : (more : List ℕ) → version_of (unit ++ more) ≡ version
  whole_long : length (unit ++ drop 4 whole) ≡ 18
  rest_long : length rest ≡ size - 4

first-are : (version : Version) (size : ℕ) (unit whole rest : List ℕ) → length whole ≡ 18 → length unit ≡ length (take 4 whole) → version ≡ version_of (unit ++ drop 4 whole) → size ≤ 18 →
    length rest ≡ length (take (size - 4) (drop 4 (unit ++ drop 4 whole))) → AreFirst version size unit whole rest
first-are version size unit whole rest long same is few rest_is =
    let four : length unit ≡ 4 = omega (arith, same, length-take-le 4 whole (omega (arith, long))) in
    let all : length (unit ++ drop 4 whole) ≡ 18 = omega (arith, length-append unit (drop 4 whole), length-drop 4 whole, four, long) in
    record {
      long = four;
      is = λ more. version-front unit more four ∙ sym (version-front unit (drop 4 whole) four) ∙ sym is;
      whole_long = all;
      rest_long = rest_is ∙ length-take-le (size - 4) (drop 4 (unit ++ drop 4 whole)) (omega (arith, length-drop 4 (unit ++ drop 4 whole), all, few));
    }

pub returns-in_err-read_unit-clause-told : goal.returns-in_err-read_unit-clause-told
returns-in_err-read_unit-clause-told g c want input is =
    let unit = c.read_unit.new.unit in
    let p = err_from_is_err_and c.from_residual.result c.from_residual.ensures.1 in
    let four : length unit ≡ 4 = omega (arith, c.read_unit.auto.unit, length-take-le 4 c.args.unit.now (omega (arith, c.requires))) in
    rw (p.1, p.2)
    (first-stops want 0 [] input unit input _ _ _ c.in_err-read_unit.field-0.0 (takes_none _) is refl refl
    (omega (arith, four, first-most (version_of input) 4 (omega arith)))
    c.in_err-read_unit.ensures.bytes)

pub returns-in_err-read_unit-2-clause-told : goal.returns-in_err-read_unit-2-clause-told
returns-in_err-read_unit-2-clause-told g c want input is =
    let unit = c.read_unit.new.unit in
    let rest = c.read_unit-2.new.unit in
    let size : ℕ = c.first_size.result in
    let size_is : size ≡ first_size c.version_of-version.result = c.first_size.ensures.value in
    let f = first-are c.version_of-version.result size unit c.args.unit.now rest c.requires c.read_unit.auto.unit c.version_of-version.ensures c.first_size.ensures.few c.read_unit-2.auto.unit in
    let t = told_rest _ _ unit input c.in_ok-read_unit.ensures.bytes is in
    let same : first_size (version_of input) ≡ size = ap (λ (xs : List ℕ). first_size (version_of xs)) t.input_is ∙ ap first_size (f.is t.left) ∙ sym size_is in
    let p = err_from_is_err_and c.from_residual-in_err-read_unit-2.result c.from_residual-in_err-read_unit-2.ensures.1 in
    rw (p.1, p.2)
    (first-stops want 4 unit t.left rest input _ _ _ c.in_err-read_unit-2.field-0.0 c.in_ok-read_unit.ensures.bytes t.new_is t.input_is (sym f.long)
    (omega (arith, f.long, f.rest_long, same, c.first_size.ensures.some))
    c.in_err-read_unit-2.ensures.bytes)

pub returns-clause-told : goal.returns-clause-told
returns-clause-told g c want input is =
    let unit = c.read_unit.new.unit in
    let rest = c.read_unit-2.new.unit in
    let size : ℕ = c.first_size.result in
    let v = c.version_of-version.result in
    let f = first-are v size unit c.args.unit.now rest c.requires c.read_unit.auto.unit c.version_of-version.ensures c.first_size.ensures.few c.read_unit-2.auto.unit in
    let base : List ℕ = unit ++ drop 4 c.args.unit.now in
    let front : take size (put_mid 4 (size - 4) base rest) ≡ unit ++ rest =
    take-put_mid 4 (size - 4) base rest size (omega (arith, f.rest_long, c.first_size.ensures.some)) (omega (arith, f.whole_long, c.first_size.ensures.some, c.first_size.ensures.few))
    ∙ ap (λ (xs : List ℕ). xs ++ rest) (take_front unit (drop 4 c.args.unit.now) 4 f.long) in
    let all : take (first_size v) (put_mid 4 (size - 4) base rest) ≡ unit ++ rest = ap (λ (n : ℕ). take n (put_mid 4 (size - 4) base rest)) (sym c.first_size.ensures.value) ∙ front in
    let P : List ℕ → Type 0 = λ xs. Takes (g.S.Source.left c.args.source.now) (g.S.Source.left c.read_unit-2.new.source) xs in (
      subst P (sym all) (takes_then _ _ _ unit rest c.in_ok-read_unit.ensures.bytes c.in_ok-read_unit-2.ensures.bytes),
      λ left. ap (λ (xs : List ℕ). version_of (xs ++ left)) all ∙ ap version_of (append_assoc unit rest left) ∙ f.is (rest ++ left),
    )

pub returns-in_err-read_unit-2-clause-moved : goal.returns-in_err-read_unit-2-clause-moved
returns-in_err-read_unit-2-clause-moved g c = takes_bytes_then _ _ _ c.read_unit.ensures.moved c.read_unit-2.ensures.moved

pub returns-clause-moved : goal.returns-clause-moved
returns-clause-moved g c = takes_bytes_then _ _ _ c.read_unit.ensures.moved c.read_unit-2.ensures.moved
