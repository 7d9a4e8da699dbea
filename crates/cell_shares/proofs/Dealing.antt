-- Where the loop of `split` is after t shares.
use Rattle.std.proofs.Common.{◌≡◌, ℕ, suc, ◌+◌, ◌-◌, ◌*◌, ◌/◌, ◌<◌, List, [], ◌∷◌, ◌++◌, length, map, refl, sym, ap, ◌∙◌, subst, arith}
use lib.ListN.{take, drop}
use Rattle.std.specs.List.{range_with_len}
use Rattle.std.proofs.Math.Nat.{mul-div_cancel_left}
use Rattle.cell_shares.specs.Deal.{share_places, values_at, deal}
use Rattle.cell_shares.specs.Orders.{place_in, order_places}
use Rattle.cell_shares.specs.Parts.{places, values, Shuffled}
use Rattle.cell_shares.specs.declared.cells.Cells.{Cells}
use Rattle.cell_shares.specs.declared.order.Order.{Order}
use Rattle.cell_shares.specs.declared.part.Part.{Part}
use Rattle.cell_shares.specs.declared.share.Share.{Share}
use Rattle.cell_shares.specs.Names.{Name}
use Rattle.cell_shares.specs.Shares.{name_of, cell_values, share_label, share_values}
use Rattle.cell_shares.proofs.Numbers.{values-long}
use Rattle.cell_shares.proofs.Told.{Tells, told_values, tells_take, tells_drop, tells_shuffled, tells_all, places-take, places-drop, pushed}

module _ {X : Type 0} (s : Cells X) (order : Order) where
  abbrev place : ℕ → ℕ
  place i = place_in order i

  abbrev label : ℕ → Name × (Order × ℕ)
  label t = (name_of s, (order, t))

  -- the values of share t
  abbrev given : ℕ → List X
  given t = values_at (cell_values s) (share_places order s.width t)

  pub record Dealing (t : ℕ) (rest : Part X) (shares : List (Share X)) : Type 0 where
    pub start : rest.ptr ≡ s.part.ptr
    pub count : rest.count ≡ s.part.count
    pub left : (n : ℕ) → n + t ≡ s.windows → places rest.cells ≡ map place (range_with_len (t * s.width) (n * s.width))
    pub told : Tells (cell_values s) rest.cells
    pub labels : map share_label shares ≡ map label (range_with_len 0 t)
    pub dealt : map share_values shares ≡ map given (range_with_len 0 t)

  pub begins : (rest : Part X) → rest.ptr ≡ s.part.ptr → rest.count ≡ s.part.count → Shuffled s.part.cells rest.cells → places rest.cells ≡ order_places order s.part.count → Dealing 0 rest []
  begins rest p k mixed at = record {
    start = p;
    count = k;
    left = λ n e. let m : n ≡ s.windows = omega (arith, e) in let z : 0 ≡ 0 * s.width = omega arith in
        at ∙ (λ i. map place (range_with_len (z i) ((sym s.counted ∙ (s.whole ∙ ap (λ (k : ℕ). k * s.width) (sym m))) i)));
    told = tells_shuffled (cell_values s) s.part.cells rest.cells mixed (tells_all s.count s.part.cells s.numbered);
    labels = refl;
    dealt = refl;
  }

  module _ (t : ℕ) (rest : Part X) (shares : List (Share X)) (d : Dealing t rest shares) where
    -- the next share's cells, where n shares follow it
    pub next_places : (n : ℕ) → suc n + t ≡ s.windows → places (take s.width rest.cells) ≡ share_places order s.width t
    next_places n e = let k : suc n * s.width ≡ s.width + n * s.width = omega arith in
        places-take place (t * s.width) s.width (n * s.width) rest.cells (d.left (suc n) e ∙ ap (λ (m : ℕ). map place (range_with_len (t * s.width) m)) k)

    -- the last share's
    pub last_places : 1 + t ≡ s.windows → places rest.cells ≡ share_places order s.width t
    last_places e = let k : 1 * s.width ≡ s.width = omega arith in d.left 1 e ∙ ap (λ (m : ℕ). map place (range_with_len (t * s.width) m)) k

    module _ (share : Share X) (is : share_label share ≡ label t) where
      given-is : (cs : List (ℕ × X)) → share.part.cells ≡ cs → Tells (cell_values s) cs → places cs ≡ share_places order s.width t → share_values share ≡ given t
      given-is cs e told at = ap values e ∙ (told_values (cell_values s) cs told ∙ ap (values_at (cell_values s)) at)

      pub one_more : t < s.windows → (others : Part X) → share.part.cells ≡ take s.width rest.cells → others.ptr ≡ rest.ptr → others.count ≡ rest.count → others.cells ≡ drop s.width rest.cells
          → Dealing (t + 1) others (shares ++ share ∷ [])
      one_more lt others mine p k cells =
          let n : ℕ = s.windows - (t + 1) in let all : suc n + t ≡ s.windows = omega (arith, lt) in record {
            start = p ∙ d.start;
            count = k ∙ d.count;
            left = λ n e.
                let e' : suc n + t ≡ s.windows = (let x : suc n + t ≡ n + (t + 1) = omega arith in x) ∙ e in let a : suc n * s.width ≡ s.width + n * s.width = omega arith in
                let b : t * s.width + s.width ≡ (t + 1) * s.width = omega arith in
                ap places cells ∙ (places-drop place (t * s.width) s.width (n * s.width) rest.cells (d.left (suc n) e' ∙ ap (λ (m : ℕ). map place (range_with_len (t * s.width) m)) a)
                ∙ ap (λ (m : ℕ). map place (range_with_len m (n * s.width))) b);
            told = subst (Tells (cell_values s)) (sym cells) (tells_drop (cell_values s) s.width rest.cells d.told);
            labels = pushed share_label label t shares share d.labels is;
            dealt = pushed share_values given t shares share d.dealt (given-is (take s.width rest.cells) mine (tells_take (cell_values s) s.width rest.cells d.told) (next_places n all));
          }

      module _ (e : 1 + t ≡ s.windows) where
        m-is : t + 1 ≡ s.windows
        m-is = omega (arith, e)

        pub all_labels : map share_label (shares ++ share ∷ []) ≡ map label (range_with_len 0 s.windows)
        all_labels = pushed share_label label t shares share d.labels is ∙ ap (λ (m : ℕ). map label (range_with_len 0 m)) m-is

        long : length (cell_values s) / s.windows ≡ s.width
        long =
            ap (λ (k : ℕ). k / s.windows) (sym (values-long 0 s.count s.part.cells s.numbered) ∙ s.whole)
            ∙ mul-div_cancel_left s.width (let some : 0 < s.windows = omega (arith, s.some_window) in some)

        pub all_values : share.part.cells ≡ rest.cells → map share_values (shares ++ share ∷ []) ≡ deal order s.windows (cell_values s)
        all_values mine =
            pushed share_values given t shares share d.dealt (given-is rest.cells mine d.told (last_places e)) ∙ ap (λ (m : ℕ). map given (range_with_len 0 m)) m-is
            ∙ ap (λ (w : ℕ). map (λ t. values_at (cell_values s) (share_places order w t)) (range_with_len 0 s.windows)) (sym long)

  pub label_of : (t : ℕ) (share : Share X) → share.part.ptr ≡ s.part.ptr → share.part.count ≡ s.part.count → share.split.windows ≡ s.windows → share.split.order ≡ order → share.number ≡ t →
      share_label share ≡ label t
  label_of t share p k m o n = λ i. (record { start = p i; count = k i; windows = m i }, (o i, n i))
