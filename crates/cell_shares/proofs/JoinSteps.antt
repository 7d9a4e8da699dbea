-- Where the loop of `join` is while t shares are left.
use Rattle.std.proofs.Common.{◌≡◌, ℕ, zero, suc, ◌+◌, ◌*◌, ◌/◌, ◌<◌, List, [], ◌∷◌, ◌++◌, length, map, refl, sym, ap, ◌∙◌, subst, arith}
use Rattle.std.proofs.lemmas.List.{append_assoc}
use Rattle.std.specs.List.{range_with_len}
use Rattle.std.proofs.Math.Nat.{mul-div_cancel_left}
use Rattle.cell_shares.specs.Deal.{share_places, values_at, deal}
use Rattle.cell_shares.specs.Orders.{place_in, order_places}
use Rattle.cell_shares.specs.Parts.{places}
use Rattle.cell_shares.specs.declared.order.Order.{Order}
use Rattle.cell_shares.specs.declared.part.Part.{Part}
use Rattle.cell_shares.specs.declared.share.Share.{Share}
use Rattle.cell_shares.specs.declared.share.Split.{Split}
use Rattle.cell_shares.specs.Names.{Name}
use Rattle.cell_shares.specs.Shares.{share_label, share_values, AreAllOf}
use lib.ListN.{length-map}
use Rattle.std.proofs.lemmas.List.FromFn.{length-range_with_len}
use Rattle.cell_shares.proofs.Told.{Tells, told_values, tells_first, tells_others, map-append, run-append, popped, last_is}

-- the split of a name's cells
pub record IsSplitOf (name : Name) (order : Order) (x : Split) : Type 0 where
  pub in_order : x.order ≡ order
  pub in_windows : x.windows ≡ name.windows
  pub of_count : x.count ≡ name.count

module _ {X : Type 0} (name : Name) (order : Order) (all : List (Share X)) (w : ℕ) where
  abbrev place : ℕ → ℕ
  place i = place_in order i

  abbrev label : ℕ → Name × (Order × ℕ)
  label t = (name, (order, t))

  abbrev given : List X → ℕ → List X
  given v t = values_at v (share_places order w t)

  pub record Joining (t : ℕ) (part : Part X) (shares : List (Share X)) : Type 0 where
    pub start : part.ptr ≡ name.start
    pub count : part.count ≡ name.count
    pub whole : name.count ≡ name.windows * w
    pub below : t < name.windows
    pub placed : (n : ℕ) → n + t ≡ name.windows → places part.cells ≡ map place (range_with_len (t * w) (n * w))
    pub labels : map share_label shares ≡ map label (range_with_len 0 t)
    pub dealt : (v : List X) → Tells v part.cells → (n : ℕ) → n + t ≡ name.windows → map share_values all ≡ map share_values shares ++ map (given v) (range_with_len t n)

  -- what the label of a share says
  pub split_is : (share : Share X) (t : ℕ) → share_label share ≡ label t → IsSplitOf name order share.split
  split_is share t e = record { in_order = ap (λ l. l.1.0) e; in_windows = ap (λ l. l.0.windows) e; of_count = share.counted ∙ ap (λ l. l.0.count) e }

  share_at : (share : Share X) (t : ℕ) → share_label share ≡ label t → share.split.width ≡ w → places share.part.cells ≡ share_places order w t
  share_at share t e is = share.dealt ∙ (λ i. share_places (e i).1.0 (is i) (e i).1.1)

  pub last_first : (t : ℕ) (shares : List (Share X)) (share : Share X) → t + 1 ≡ name.windows → shares ++ share ∷ [] ≡ all → share.split.width ≡ w →
      map share_label all ≡ map label (range_with_len 0 name.windows) → Joining t share.part shares
  last_first t shares share m items width labels =
      let pushed : map share_label (shares ++ share ∷ []) ≡ map label (range_with_len 0 (t + 1)) = ap (map share_label) items ∙ (labels ∙ ap (λ (k : ℕ). map label (range_with_len 0 k)) (sym m)) in
      let is : share_label share ≡ label t = last_is share_label label t shares share pushed in let x = split_is share t is in let at = share_at share t is width in record {
        start = ap (λ l. l.0.start) is;
        count = ap (λ l. l.0.count) is;
        whole = sym x.of_count ∙ (share.split.whole ∙ (λ i. x.in_windows i * width i));
        below = omega (arith, m);
        placed = λ n e. let one : w ≡ n * w = (let a : w ≡ 1 * w = omega arith in a) ∙ ap (λ (k : ℕ). k * w) (let o : 1 ≡ n = omega (arith, e, m) in o) in
            at ∙ ap (λ (k : ℕ). map place (range_with_len (t * w) k)) one;
        labels = popped share_label label t shares share pushed;
        dealt = λ v told n e. ap (map share_values) (sym items) ∙ (map-append share_values shares (share ∷ [])
            ∙ ((λ i. map share_values shares ++ (told_values v share.part.cells told ∙ ap (values_at v) at) i ∷ [])
            ∙ ap (λ (k : ℕ). map share_values shares ++ map (given v) (range_with_len t k)) (let o : 1 ≡ n = omega (arith, e, m) in o)));
      }

  module _ (t : ℕ) (part glued : Part X) (shares before : List (Share X)) (share : Share X) (j : Joining (t + 1) part shares) (items : before ++ share ∷ [] ≡ shares) (width : share.split.width ≡ w)
    where
      pub before_label : share_label share ≡ label t
      before_label = last_is share_label label t before share (ap (map share_label) items ∙ j.labels)

      pub joined_one : glued.ptr ≡ share.part.ptr → glued.count ≡ share.part.count → glued.cells ≡ share.part.cells ++ part.cells → Joining t glued before
      joined_one p k cells =
          let is = before_label in let at = share_at share t is width in record {
            start = p ∙ ap (λ l. l.0.start) is;
            count = k ∙ ap (λ l. l.0.count) is;
            whole = j.whole;
            below = let b = j.below in omega (arith, b);
            placed = λ n e. placed_one n e at cells;
            labels = popped share_label label t before share (ap (map share_label) items ∙ j.labels);
            dealt = λ v told n e. dealt_one v (subst (Tells v) cells told) n e at;
          }
        where
          placed_one : (n : ℕ) → n + t ≡ name.windows → places share.part.cells ≡ share_places order w t → glued.cells ≡ share.part.cells ++ part.cells →
              places glued.cells ≡ map place (range_with_len (t * w) (n * w))
          placed_one zero e at cells = let b = j.below in absurd (omega (arith, e, b))
          placed_one (suc n) e at cells =
              let e' : n + (t + 1) ≡ name.windows = (let x : n + (t + 1) ≡ suc n + t = omega arith in x) ∙ e in let a : t * w + w ≡ (t + 1) * w = omega arith in
              let b : w + n * w ≡ suc n * w = omega arith in
              ap places cells ∙ (map-append (λ (c : ℕ × X). c.0) share.part.cells part.cells ∙ ((λ i. at i ++ (j.placed n e' ∙ ap (λ (k : ℕ). map place (range_with_len k (n * w))) (sym a)) i)
              ∙ (sym (run-append place (t * w) w (n * w)) ∙ ap (λ (k : ℕ). map place (range_with_len (t * w) k)) b)))

          dealt_one : (v : List X) → Tells v (share.part.cells ++ part.cells) → (n : ℕ) → n + t ≡ name.windows → places share.part.cells ≡ share_places order w t
              → map share_values all ≡ map share_values before ++ map (given v) (range_with_len t n)
          dealt_one v told zero e at = let b = j.below in absurd (omega (arith, e, b))
          dealt_one v told (suc n) e at =
              let e' : n + (t + 1) ≡ name.windows = (let x : n + (t + 1) ≡ suc n + t = omega arith in x) ∙ e in
              let mine = told_values v share.part.cells (tells_first v share.part.cells part.cells told) ∙ ap (values_at v) at in
              j.dealt v (tells_others v share.part.cells part.cells told) n e' ∙ (ap (λ (l : List (Share X)). map share_values l ++ map (given v) (range_with_len (t + 1) n)) (sym items)
              ∙ (ap (λ (l : List (List X)). l ++ map (given v) (range_with_len (t + 1) n)) (map-append share_values before (share ∷ []))
              ∙ (append_assoc (map share_values before) (share_values share ∷ []) (map (given v) (range_with_len (t + 1) n))
              ∙ (λ i. map share_values before ++ (mine i ∷ map (given v) (range_with_len (t + 1) n))))))

  module _ (part : Part X) (j : Joining 0 part []) where
    pub all_placed : places part.cells ≡ order_places order name.count
    all_placed = let m : name.windows + 0 ≡ name.windows = omega arith in let z : 0 * w ≡ 0 = omega arith in
        j.placed name.windows m ∙ (λ i. map place (range_with_len (z i) (sym j.whole i)))

    -- the values of all shares, by a list of as many values that the cells have
    pub all_dealt : (v : List X) → Tells v part.cells → length v ≡ name.count → map share_values all ≡ deal order name.windows v
    all_dealt v told long = let m : name.windows + 0 ≡ name.windows = omega arith in let some : 0 < name.windows = (let b = j.below in b) in
        let same : w ≡ length v / name.windows = sym (ap (λ (k : ℕ). k / name.windows) (long ∙ j.whole) ∙ mul-div_cancel_left w some) in
        j.dealt v told name.windows m ∙ ap (λ (x : ℕ). map (λ t. values_at v (share_places order x t)) (range_with_len 0 name.windows)) same

pub same_width : (m a b : ℕ) → 0 < m → m * a ≡ m * b → a ≡ b
same_width m a b some e = sym (mul-div_cancel_left a some) ∙ (ap (λ (k : ℕ). k / m) e ∙ mul-div_cancel_left b some)

pub empty_list : {X : Type 0} (xs : List X) → length xs ≡ 0 → xs ≡ []
empty_list [] e = refl
empty_list (x ∷ xs) e = let no : suc (length xs) ≡ 0 = e in absurd (omega (arith, no))

module _ {X : Type 0} (name : Name) (order : Order) (all : List (Share X)) (are : AreAllOf name order all) where
  pub all_long : length all ≡ name.windows
  all_long = sym (length-map all share_label) ∙ (ap length are.1 ∙ (length-map (range_with_len 0 name.windows) (λ t. (name, (order, t))) ∙ length-range_with_len 0 name.windows))

  module _ (t : ℕ) (shares : List (Share X)) (share : Share X) (items : all ≡ shares ++ share ∷ []) (m : t + 1 ≡ name.windows) where
    pub last_label : share_label share ≡ (name, (order, t))
    last_label = last_is share_label (λ k. (name, (order, k))) t shares share (ap (map share_label) (sym items) ∙ (are.1 ∙ ap (λ (k : ℕ). map (λ n. (name, (order, n))) (range_with_len 0 k)) (sym m)))

    pub joins_last : Joining name order all share.split.width t share.part shares × IsSplitOf name order share.split
    joins_last = (last_first name order all share.split.width t shares share m (sym items) refl are.1, split_is name order all share.split.width share t last_label)

  module _ (w t : ℕ) (part glued : Part X) (shares before : List (Share X)) (share : Share X) (j : Joining name order all w (t + 1) part shares) (items : shares ≡ before ++ share ∷ []) where
    pub next_label : share_label share ≡ (name, (order, t))
    next_label = last_is share_label (λ k. (name, (order, k))) t before share (ap (map share_label) (sym items) ∙ j.labels)

    pub joins_next : glued.ptr ≡ share.part.ptr → glued.count ≡ share.part.count → glued.cells ≡ share.part.cells ++ part.cells
        → Joining name order all share.split.width t glued before × IsSplitOf name order share.split
    joins_next p k cells =
        let x = split_is name order all w share t next_label in let some : 0 < name.windows = (let b = j.below in omega (arith, b)) in
        let width : share.split.width ≡ w = same_width name.windows share.split.width w some ((λ i. sym x.in_windows i * share.split.width) ∙ (sym share.split.whole ∙ (x.of_count ∙ j.whole))) in
        (subst (λ (u : ℕ). Joining name order all u t glued before) (sym width) (joined_one name order all w t part glued shares before share j (sym items) width p k cells), x)
