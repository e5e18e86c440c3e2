-- A number is split by a sum with a large whole number B: the sum has no room for a fraction, and less B it is the whole number nearest to the number.
use Rattle.std.proofs.Common.{◌≡◌, ℕ, ◌+◌, ◌-◌, ◌*◌, ◌<◌, ◌≤◌, Bool, true, false, ltb, ◌⊎◌, sym, refl, ap, ◌∙◌, subst, inl, inr, le-add_right, mul-le-mul_right}
use Rattle.std.proofs.Common.{add-mul, add_comm, le_antisymm, mul-one, sub-le, arith, lit<, ltb-false, ltb-true}
use lib.Ieee.{Float, add, binary64, round, sub, sum}
use lib.Ieee.Back.{round_whole}
use lib.Ieee.Exact.{HasValue}
use Rattle.laws.proofs.Near.{Near, near_least, near_most, whole_round}
use Rattle.laws.proofs.Values.{add_round, sub_round, sum_neg, sum_neg_pos, sum_pos_neg}

-- N is K above B for a number with no minus sign, and K below it for one with
abbrev pub Beside : Bool → ℕ → ℕ → ℕ → Type 0
Beside false B K N = N ≡ B + K
Beside true B K N = B ≡ N + K

-- k is the whole number K with the sign s, or it is +0
abbrev pub Whole : Float → Bool → ℕ → Type 0
Whole k s K = HasValue k s K 1 ⊎ ((K ≡ 0) × HasValue k false 0 1)

-- x is n / d with the sign s: the sum with b is the whole number N, and less b it is K, which is nearest to n / d
abbrev pub Nearest : Float → ℕ → Float → Bool → ℕ → ℕ → Type 0
Nearest b B x s n d =
    (K : ℕ) × (N : ℕ) × Beside s B K N × Near (K * d * 2) (n * 2) d × HasValue (add binary64 x b) false N 1 × Whole (sub binary64 (add binary64 x b) b) s K

-- b is the whole number B, far from 2 ^ 52 and 2 ^ 53, between which the floats are the whole numbers
module _ (b : Float) (B : ℕ) (v : HasValue b false B 1) (low : 4503599627372544 ≤ B) (high : B ≤ 9007199254738943) where
  -- ---- the sum less b
  above : (t : Float) (N : ℕ) → HasValue t false N 1 → B ≤ N → N ≤ 9007199254740992 → HasValue (sub binary64 t b) false (N - B) 1
  above t N w h k =
      subst (λ (z : Float). HasValue z false (N - B) 1)
      (sym (sub_round t b false false N 1 B 1 (lit< tt) (lit< tt) w v ∙ sum_pos_neg (N * 1) (B * 1) 1 (mul-le-mul_right 1 h) ∙ plain N B))
      (round_whole binary64 false (N - B) (less N B k))
    where
      plain : (N B : ℕ) → round binary64 false (N * 1 - B * 1) 1 ≡ round binary64 false (N - B) 1
      plain N B = simp (mul-one)

      less : (N B : ℕ) → N ≤ 9007199254740992 → N - B ≤ 9007199254740992
      less N B k = omega arith

  below : (t : Float) (N : ℕ) → HasValue t false N 1 → N < B → HasValue (sub binary64 t b) true (B - N) 1
  below t N w h =
      subst (λ (z : Float). HasValue z true (B - N) 1)
      (sym (sub_round t b false false N 1 B 1 (lit< tt) (lit< tt) w v ∙ sum_neg (N * 1) (B * 1) 1 (ones N B h) ∙ plain N B))
      (round_whole binary64 true (B - N) (less N B high))
    where
      ones : (N B : ℕ) → N < B → N * 1 < B * 1
      ones N B h = omega arith

      plain : (N B : ℕ) → round binary64 true (B * 1 - N * 1) 1 ≡ round binary64 true (B - N) 1
      plain N B = simp (mul-one)

      less : (N B : ℕ) → B ≤ 9007199254738943 → B - N ≤ 9007199254740992
      less N B h = omega arith

  not_above : (t : Float) (N : ℕ) → HasValue t false N 1 → N ≤ B → N ≤ 9007199254740992 → Whole (sub binary64 t b) true (B - N)
  not_above t N w l k = go (ltb N B) refl
    where
      nil : (N : ℕ) → N - N ≡ 0
      nil N = omega arith

      go : (i : Bool) → ltb N B ≡ i → Whole (sub binary64 t b) true (B - N)
      go true q = inl (below t N w (ltb-true N B q))
      go false q =
          let z : N ≡ B = le_antisymm l (ltb-false N B q) in
          inr (
            ap (λ (m : ℕ). B - m) z ∙ nil B,
            subst (λ (m : ℕ). HasValue (sub binary64 t b) false m 1) (ap (λ (m : ℕ). m - B) z ∙ nil B) (above t N w (ltb-false N B q) k),
          )

  -- ---- the sum
  -- n / d beside B is from 2 ^ 52 to below 2 ^ 53; u is B * d
  range : (n d u : ℕ) → 4503599627372544 * d ≤ u → u ≤ 9007199254738943 * d → n ≤ 2048 * d → 0 < d
      → (4503599627370496 * d ≤ u - n) × (u - n < 9007199254740992 * d) × (4503599627370496 * d ≤ u + n) × (u + n < 9007199254740992 * d) × (n * 1 ≤ u)
  range n d u l k h D = (omega arith, omega arith, omega arith, omega arith, omega arith)

  plus : (x : Float) (n d : ℕ) → 0 < d → n ≤ 2048 * d → HasValue x false n d → Nearest b B x false n d
  plus x n d D h w =
      let g = range n d (B * d) (mul-le-mul_right d low) (mul-le-mul_right d high) h D in
      let r = whole_round (B * d + n) d D g.2 g.3 in
      let N = r.0 in
      let t : HasValue (add binary64 x b) false N 1 =
      subst (λ (z : Float). HasValue z false N 1) (sym (add_round x b false false n d B 1 D (lit< tt) w v ∙ plain n d B)) r.1 in
      let l : B ≤ N = near_least N B (B * d + n) d D (le-add_right (B * d) n) r.2.1 in
      let e : N ≡ B + (N - B) = over N B l in
      let c = near n d (N * d) (B * d) ((N - B) * d) (ap (λ (z : ℕ). z * d) e ∙ add-mul B (N - B) d) r.2 in
      (N - B, N, e, c, t, inl (above (add binary64 x b) N t l r.3))
    where
      plain : (n d B : ℕ) → sum binary64 false (n * 1) false (B * d) (d * 1) ≡ round binary64 false (B * d + n) d
      plain n d B = unfold sum in simp (mul-one, add_comm n (B * d))

      over : (N B : ℕ) → B ≤ N → N ≡ B + (N - B)
      over N B h = omega arith

      near : (n d x u y : ℕ) → x ≡ u + y → Near (x * 2) ((u + n) * 2) d → Near (y * 2) (n * 2) d
      near n d x u y e h = (one h.0, two h.1)
        where
          one : x * 2 ≤ (u + n) * 2 + d → y * 2 ≤ n * 2 + d
          one k = omega arith

          two : (u + n) * 2 ≤ x * 2 + d → n * 2 ≤ y * 2 + d
          two k = omega arith

  minus : (x : Float) (n d : ℕ) → 0 < d → n ≤ 2048 * d → HasValue x true n d → Nearest b B x true n d
  minus x n d D h w =
      let g = range n d (B * d) (mul-le-mul_right d low) (mul-le-mul_right d high) h D in
      let r = whole_round (B * d - n) d D g.0 g.1 in
      let N = r.0 in
      let t : HasValue (add binary64 x b) false N 1 =
      subst (λ (z : Float). HasValue z false N 1)
      (sym (add_round x b true false n d B 1 D (lit< tt) w v ∙ sum_neg_pos (n * 1) (B * d) (d * 1) g.4 ∙ plain n d B)) r.1 in
      let l : N ≤ B = near_most N B (B * d - n) d D (sub-le (B * d) n) r.2.0 in
      let e : B ≡ N + (B - N) = under N B l in
      let c = near n d (N * d) (B * d) ((B - N) * d) g.4 (ap (λ (z : ℕ). z * d) e ∙ add-mul N (B - N) d) r.2 in
      (B - N, N, e, c, t, not_above (add binary64 x b) N t l r.3)
    where
      plain : (n d B : ℕ) → round binary64 false (B * d - n * 1) (d * 1) ≡ round binary64 false (B * d - n) d
      plain n d B = simp (mul-one)

      under : (N B : ℕ) → N ≤ B → B ≡ N + (B - N)
      under N B h = omega arith

      near : (n d x u y : ℕ) → n * 1 ≤ u → u ≡ x + y → Near (x * 2) ((u - n) * 2) d → Near (y * 2) (n * 2) d
      near n d x u y c e h = (one h.1, two h.0)
        where
          one : (u - n) * 2 ≤ x * 2 + d → y * 2 ≤ n * 2 + d
          one k = omega arith

          two : x * 2 ≤ (u - n) * 2 + d → n * 2 ≤ y * 2 + d
          two k = omega arith

  pub nearest_whole : (s : Bool) (x : Float) (n d : ℕ) → 0 < d → n ≤ 2048 * d → HasValue x s n d → Nearest b B x s n d
  nearest_whole false = plus
  nearest_whole true = minus
