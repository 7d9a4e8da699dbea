use Rattle.std.proofs.Common.{◌≡◌, ℕ, zero, suc, ◌+◌, ◌-◌, ◌<◌, ◌≤◌, List, [], ◌∷◌, ◌++◌, length, take, set, get_or, replicate, All, refl, sym, ap, subst, ◌∙◌, append_assoc, arith}
use Rattle.std.proofs.lemmas.List.{take_all, take_more_set, length-take-le, length-set, length-append}
use Rattle.std.proofs.Math.Seq.{set-append_seam}
use Rattle.std.proofs.lemmas.List.Elements.{All-append}
use Rattle.lte_bits.specs.Lists.{resized}
use Rattle.rate_match.specs.declared.sends.Sending.{Sending}
use Rattle.rate_match.specs.Held.{IsHeld, first}
use Rattle.rate_match.specs.Matching.{IsMatch}
use Rattle.rate_match.specs.Sendings.{AreSendings, common}
use Rattle.rate_match.proofs.sends.Sends.add.Goals as goal

-- a list of at most eight, filled up
filled : (x : Sending) (ys : List Sending) (d : ℕ) → length ys + d ≡ 8 → resized ys 8 x ≡ ys ++ replicate d x
filled x ys d e =
    ap (λ (zs : List Sending). zs ++ replicate (8 - length ys) x) (take_all 8 ys (omega (arith, e)))
    ∙ ap (λ (n : ℕ). ys ++ replicate n x) (omega (arith, e))

-- the first free place is written
filled_more : (x : Sending) (ys : List Sending) (v : Sending) (d : ℕ) → length ys + suc d ≡ 8 → resized (ys ++ v ∷ []) 8 x ≡ set (resized ys 8 x) (length ys) v
filled_more x ys v d e =
    filled x (ys ++ v ∷ []) d (omega (arith, length-append ys (v ∷ []), e))
    ∙ append_assoc ys (v ∷ []) (replicate d x)
    ∙ sym (set-append_seam ys x (replicate d x) v)
    ∙ ap (λ (zs : List Sending). set zs (length ys) v) (sym (filled x ys (suc d) e))

-- a transmission after others changes neither the first nor what is common
same_first : (ys : List Sending) (v : Sending) → 1 ≤ length ys → first (ys ++ v ∷ []) ≡ first ys
same_first [] v some = absurd (omega (arith, some))
same_first (y ∷ ys) v some = refl

same_common : (ys : List Sending) (v : Sending) → 1 ≤ length ys → (common (ys ++ v ∷ [])).limit ≡ (common ys).limit
same_common [] v some = absurd (omega (arith, some))
same_common (y ∷ ys) v some = refl

sendings_more : (ys : List Sending) (v : Sending) → AreSendings ys → length ys < 8 → v.rv ≤ 3 → IsMatch v.m → v.m.limit ≡ (common ys).limit → AreSendings (ys ++ v ∷ [])
sendings_more ys v are room small lawful same =
    let kept : (common (ys ++ v ∷ [])).limit ≡ (common ys).limit = same_common ys v are.some in
    record {
      some = omega (arith, length-append ys (v ∷ []));
      few = omega (arith, length-append ys (v ∷ []), room);
      versions = All-append (λ s. s.rv ≤ 3) ys (v ∷ []) are.versions (one (λ s. s.rv ≤ 3) small);
      lawful = All-append (λ s. IsMatch s.m) ys (v ∷ []) are.lawful (one (λ s. IsMatch s.m) lawful);
      buffer = All-append (λ s. s.m.limit ≡ (common (ys ++ v ∷ [])).limit) ys (v ∷ []) (λ k d inside. are.buffer k d inside ∙ sym kept)
          (one (λ s. s.m.limit ≡ (common (ys ++ v ∷ [])).limit) (same ∙ sym kept));
    }
  where
    one : (P : Sending → Type 0) → P v → All P (v ∷ [])
    one P p zero d lt = p
    one P p (suc k) d lt = absurd (omega (arith, lt))

held_more : (values : List Sending) (n : ℕ) (v : Sending) → IsHeld (record { values = values; held = n }) → n < 8 → v.rv ≤ 3 → IsMatch v.m → v.m.limit ≡ (common (take n values)).limit
    → IsHeld (record { values = set values n v; held = n + 1 })
held_more values n v h room small lawful same =
    let ys : List Sending = take n values in
    let x : Sending = first ys in
    let inside : n < length values = omega (arith, h.places, room) in
    let front : take (n + 1) (set values n v) ≡ ys ++ v ∷ [] = take_more_set values n v inside in
    let long : length ys ≡ n = length-take-le n values (omega (arith, inside)) in
    let P : List Sending → Type 0 = AreSendings in
    record {
      places = length-set values n v ∙ h.places;
      within = omega (arith, room);
      rest =
          ap (λ (zs : List Sending). resized zs 8 (first zs)) front
          ∙ ap (λ (y : Sending). resized (ys ++ v ∷ []) 8 y) (same_first ys v h.sendings.some)
          ∙ filled_more x ys v (7 - n) (omega (arith, long, room))
          ∙ ap (λ (zs : List Sending). set zs (length ys) v) h.rest
          ∙ ap (λ (k : ℕ). set values k v) long;
      sendings = subst P (sym front) (sendings_more ys v h.sendings (omega (arith, long, room)) small lawful same);
    }

-- what is common stands at the first place
common_at : (values : List Sending) (n : ℕ) (d : Sending) → length values ≡ 8 → 1 ≤ length (take n values) → (common (take n values)).limit ≡ (get_or values 0 d).m.limit
common_at [] n d places some = absurd (omega (arith, places))
common_at (s ∷ ss) zero d places some = absurd (omega (arith, some))
common_at (s ∷ ss) (suc n) d places some = refl

pub invariant_of-self : goal.invariant_of-self
invariant_of-self c =
    let inside = c.self.inside in
    let h = c.self.invariant in
    held_more inside.values inside.held (record { m = c.args.m; rv = c.args.rv }) h (let within = h.within in omega arith) (omega arith) c.shares_buffer.ensures.lawful
    (c.shares_buffer.ensures.same.0 c.if-not-shares_buffer.false ∙ sym (common_at inside.values inside.held c.index-self-0.result h.places h.sendings.some))
