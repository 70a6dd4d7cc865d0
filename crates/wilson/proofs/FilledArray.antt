-- Filled master rows and the rows of infinite points are an orthogonal array.
use Rattle.std.proofs.Common.{Bool, List, ap, ap₂, arith, get_or, inl, inr, length, refl, subst, sym, true, ℕ, ◌%◌, ◌&&◌, ◌*◌, ◌++◌, ◌+◌, ◌-◌, ◌/◌, ◌<◌, ◌==◌, ◌∙◌, ◌≡◌, ◌≢◌, ◌≤◌, ◌⊎◌}
use Rattle.std.proofs.Math.Nat.{div-add-mod', mod-lt}
use Rattle.counting.proofs.Booleans.{bool_same, both_equal, both_equal-from, cases_eq, cases_lt, cond_above, cond_below, eq-eqb, eqb-true}
use Rattle.std.proofs.lemmas.List.Elements.{All-append}
use Rattle.std.proofs.lemmas.List.Sums.{sum_by-append}
use Rattle.std.proofs.lemmas.Nat.{div_below, mul-add-lt, same_from_place}
use Rattle.std.specs.List.{flat_map, sum_by}
use Rattle.std.specs.Prelude.{All}
use Rattle.counting.proofs.Counts.{one-false, one-true}
use Rattle.counting.proofs.Lists.{All-flat_map_of, All-map_of, sum_by-agree, sum_by-flat_map, each_all, sum_by-map, sum_by-none, sum_by-same}
use Rattle.counting.proofs.Ranges.{get_or-list_below, length-list_below}
use Rattle.counting.specs.Sums.{list_below, one}
use Rattle.design_base.proofs.Rows.{agree-is, agree-turn, oa_from_pairs, symbol_below}
use Rattle.design_base.specs.Arrays.{IsOa, IsRow, agree}
use Rattle.transversal.proofs.Square.{row_of_entries}
use Rattle.wilson.proofs.HoledArray.{IsHoled}
use Rattle.wilson.specs.Truncations.{filled, filled_row, filled_rows}

-- the infinite points far c v, for the symbols v below size c of the master's columns c from k on
pub record AreInfinite (k K m t n : ℕ) (size : ℕ → ℕ) (far : ℕ → ℕ → ℕ) : Type 0 where
  pub more : k ≤ K
  pub finite : m * t ≤ n
  pub fits : (c : ℕ) → k ≤ c → c < K → size c ≤ t
  pub high : (c v : ℕ) → k ≤ c → c < K → v < size c → m * t ≤ far c v
  pub below : (c v : ℕ) → k ≤ c → c < K → v < size c → far c v < n
  pub apart : (c d v w : ℕ) → k ≤ c → c < K → v < size c → k ≤ d → d < K → w < size d → far c v ≡ far d w → (c ≡ d) × (v ≡ w)
  pub point : (p : ℕ) → m * t ≤ p → p < n → (c : ℕ) × (v : ℕ) × (k ≤ c) × (c < K) × (v < size c) × (far c v ≡ p)

-- P stands for the master row r: the symbols of the inner rows from m on are the infinite points of r
pub record IsPiece (k K m : ℕ) (size : ℕ → ℕ) (far : ℕ → ℕ → ℕ) (r : List ℕ) (P : List (List ℕ)) : Type 0 where
  pub inner : List (List ℕ)
  pub ends : List ℕ
  pub group : ℕ → ℕ
  pub holed : IsHoled inner k m (length ends)
  pub is : filled_rows k m ends r inner ≡ P
  pub truncated : (s : ℕ) → m ≤ s → s < m + length ends → (k ≤ group s) × (group s < K) × (get_or r (group s) 0 < size (group s)) × (get_or ends (s - m) 0 ≡ far (group s) (get_or r (group s) 0))
  pub differ : (s z : ℕ) → m ≤ s → s < m + length ends → m ≤ z → z < m + length ends → group s ≡ group z → s ≡ z
  pub reached : (c : ℕ) → k ≤ c → c < K → get_or r c 0 < size c → (s : ℕ) × (m ≤ s) × (s < m + length ends) × (group s ≡ c)

-- the inner symbol z alone gives the point p
record Reads (m h j c : ℕ) (group e : ℕ → ℕ) (p z : ℕ) : Type 0 where
  bound : z < m + h
  kind : ((z < m) × (c ≡ j)) ⊎ ((m ≤ z) × (group z ≡ c))
  test : (s : ℕ) → s < m + h → (e s == p) ≡ (s == z)

-- the rows with point p in column j come from the master rows with v in column c
record IsPoint (k K m t : ℕ) (size : ℕ → ℕ) (far : ℕ → ℕ → ℕ) (j p c v : ℕ) : Type 0 where
  column : c < K
  value : v < t
  kind : ((c ≡ j) × (v ≡ p / m) × (p < m * t)) ⊎ ((k ≤ c) × (v < size c) × (far c v ≡ p))

filled-below : (m : ℕ) (infinite : List ℕ) (x s : ℕ) → s < m → filled m infinite x s ≡ x * m + s
unfolding filled
filled-below m infinite x s l = sym (cond_below s m (x * m + s) (get_or infinite (s - m) 0) l)

filled-above : (m : ℕ) (infinite : List ℕ) (x s : ℕ) → m ≤ s → filled m infinite x s ≡ get_or infinite (s - m) 0
unfolding filled
filled-above m infinite x s l = sym (cond_above s m (x * m + s) (get_or infinite (s - m) 0) (get_or infinite (s - m) 0) l refl)

-- a filled row is one, where its points and the infinite points are below n
pub row_of_filled : (k n m h : ℕ) (infinite a r : List ℕ) → ((j : ℕ) → j < k → get_or a j 0 * m + m ≤ n) → ((s : ℕ) → m ≤ s → s < m + h → get_or infinite (s - m) 0 < n) → IsRow k (m + h) r → IsRow k n (filled_row k m infinite a r)
unfolding filled_row
row_of_filled k n m h infinite a r finite far v = row_of_entries k n (filled_row k m infinite a r) (length-list_below k (λ j. filled m infinite (get_or a j 0) (get_or r j 0))) (λ j l. omega (
  arith,
  get_or-list_below k (λ j. filled m infinite (get_or a j 0) (get_or r j 0)) j 0 l,
  bounded (get_or a j 0) (get_or r j 0) (finite j l) (v.below j 0 (omega (arith, v.size))),
))
  where
    bounded : (x s : ℕ) → x * m + m ≤ n → s < m + h → filled m infinite x s < n
    bounded x s fits ls = elim (cases_lt s m) [
      | inl l ↦ omega (arith, filled-below m infinite x s l)
      | inr l ↦ omega (arith, filled-above m infinite x s l, far s l ls)
    ]

test_of : (e : ℕ → ℕ) (p z s : ℕ) → e z ≡ p → (e s ≡ p → s ≡ z) → (e s == p) ≡ (s == z)
test_of e p z s a b = bool_same _ _ (λ f. eq-eqb s z (b (eqb-true (e s) p f))) (λ f. eq-eqb (e s) p (ap e (eqb-true s z f) ∙ a))

agree_filled : (k m : ℕ) (infinite a : List ℕ) (R : List (List ℕ)) (i j p q : ℕ) → i < k → j < k →
    agree (filled_rows k m infinite a R) i j p q ≡ sum_by (λ r. one ((filled m infinite (get_or a i 0) (get_or r i 0) == p) && (filled m infinite (get_or a j 0) (get_or r j 0) == q))) R
unfolding filled_rows filled_row
agree_filled k m infinite a R i j p q l h = agree-is (filled_rows k m infinite a R) i j p q
    ∙ sum_by-map (λ r. one ((get_or r i 0 == p) && (get_or r j 0 == q))) (filled_row k m infinite a) R
    ∙ sum_by-same _ _ R (each_all (λ r. one ((get_or (list_below k (entry r)) i 0 == p) && (get_or (list_below k (entry r)) j 0 == q)) ≡ one ((entry r i == p) && (entry r j == q))) (λ r.
    ap₂ (λ x y. one ((x == p) && (y == q))) (get_or-list_below k (entry r) i 0 l) (get_or-list_below k (entry r) j 0 h)) R)
  where
    entry : List ℕ → ℕ → ℕ
    entry r j = filled m infinite (get_or a j 0) (get_or r j 0)

module _ (k K m t n : ℕ) (size : ℕ → ℕ) (far : ℕ → ℕ → ℕ) (pos : 0 < m) (ends : AreInfinite k K m t n size far) where
  module _ (r : List ℕ) (row : IsRow K t r) (P : List (List ℕ)) (piece : IsPiece k K m size far r P) where
    symbol : (c : ℕ) → c < K → get_or r c 0 < t
    symbol = symbol_below K t r row

    -- an infinite point is never read from a finite symbol
    far_read : (j p c v s : ℕ) → j < k → k ≤ c → c < K → v < size c → far c v ≡ p → s < m + length piece.ends → filled m piece.ends (get_or r j 0) s ≡ p → (m ≤ s) × (piece.group s ≡ c) × (get_or r c 0 ≡ v)
    far_read j p c v s l a b h e ls f = elim (cases_lt s m) [
      | inl x ↦ absurd (omega (arith, filled-below m piece.ends (get_or r j 0) s x, mul-add-lt (get_or r j 0) m s t (symbol j (omega (arith, ends.more))) x, ends.high c v a b h))
      | inr x ↦ let g = piece.truncated s x ls in
          let d = ends.apart (piece.group s) c (get_or r (piece.group s) 0) v g.0 g.1 g.2 a b h (sym g.3 ∙ sym (filled-above m piece.ends (get_or r j 0) s x) ∙ f ∙ sym e) in
          (x, d.0, ap (λ c. get_or r c 0) (sym d.0) ∙ d.1)
    ]

    near_read : (j p s : ℕ) → j < k → p < m * t → s < m + length piece.ends → filled m piece.ends (get_or r j 0) s ≡ p → (get_or r j 0 ≡ p / m) × (s ≡ p % m)
    near_read j p s l lp ls f = elim (cases_lt s m) [
      | inl x ↦ same_from_place (get_or r j 0) s (p / m) (p % m) m x (mod-lt p pos) (sym (filled-below m piece.ends (get_or r j 0) s x) ∙ f ∙ sym (div-add-mod' p m))
      | inr x ↦ let g = piece.truncated s x ls in
          absurd (omega (arith, f, filled-above m piece.ends (get_or r j 0) s x, g.3, ends.high (piece.group s) (get_or r (piece.group s) 0) g.0 g.1 g.2))
    ]

    reads : (j p c v : ℕ) → j < k → IsPoint k K m t size far j p c v →
        ((get_or r c 0 ≡ v) × ((z : ℕ) × Reads m (length piece.ends) j c piece.group (filled m piece.ends (get_or r j 0)) p z))
        ⊎ ((get_or r c 0 ≢ v) × ((s : ℕ) → s < m + length piece.ends → filled m piece.ends (get_or r j 0) s ≢ p))
    reads j p c v l point = elim point.kind [
      | inl a ↦ elim (cases_eq (get_or r c 0) v) [
        | inl e ↦ inl (
          e,
          (
            p % m,
            record {
              bound = omega (arith, mod-lt p pos);
              kind = inl (mod-lt p pos, a.0);
              test = λ s ls. test_of (filled m piece.ends (get_or r j 0)) p (p % m) s
                  (filled-below m piece.ends (get_or r j 0) (p % m) (mod-lt p pos) ∙ ap (λ x. x * m + p % m) (ap (λ c. get_or r c 0) (sym a.0) ∙ e ∙ a.1) ∙ div-add-mod' p m)
                  (λ f. (near_read j p s l a.2 ls f).1);
            },
          ),
        )
        | inr ne ↦ inr (ne, (λ s ls f. ne (ap (λ c. get_or r c 0) a.0 ∙ (near_read j p s l a.2 ls f).0 ∙ sym a.1)))
      ]
      | inr a ↦ elim (cases_eq (get_or r c 0) v) [
        | inl e ↦ let g = piece.reached c a.0 point.column (omega arith) in
            let x = piece.truncated g.0 g.1 g.2 in
            inl (
              e,
              (
                g.0,
                record {
                  bound = g.2;
                  kind = inr (g.1, g.3);
                  test = λ s ls. test_of (filled m piece.ends (get_or r j 0)) p g.0 s
                      (filled-above m piece.ends (get_or r j 0) g.0 g.1 ∙ x.3 ∙ ap₂ far g.3 (ap (λ c. get_or r c 0) g.3 ∙ e) ∙ a.2)
                      (λ f. let h = far_read j p c v s l a.0 point.column a.1 a.2 ls f in piece.differ s g.0 h.0 ls g.1 g.2 (h.1 ∙ sym g.3));
                },
              ),
            )
        | inr ne ↦ inr (ne, (λ s ls f. ne (far_read j p c v s l a.0 point.column a.1 a.2 ls f).2))
      ]
    ]

    module _ (i j p q : ℕ) (l : i < j) (h : j < k) where
      test : List ℕ → Bool
      test s = (filled m piece.ends (get_or r i 0) (get_or s i 0) == p) && (filled m piece.ends (get_or r j 0) (get_or s j 0) == q)

      counted : agree P i j p q ≡ sum_by (λ s. one (test s)) piece.inner
      unfolding test
      counted = ap (λ P. agree P i j p q) (sym piece.is) ∙ agree_filled k m piece.ends r piece.inner i j p q (omega arith) h

      inside : (s : List ℕ) → IsRow k (m + length piece.ends) s → (j : ℕ) → j < k → get_or s j 0 < m + length piece.ends
      inside s v j l = v.below j 0 (omega (arith, v.size))

      empty : ((s : List ℕ) → IsRow k (m + length piece.ends) s → test s ≡ true → ⊥) → agree P i j p q ≡ 0
      empty none = counted ∙ sum_by-none (IsRow k (m + length piece.ends)) (λ s. one (test s)) piece.inner piece.holed.rows (λ s v. one-false (test s) (none s v))

      full : (c d z y : ℕ) → Reads m (length piece.ends) i c piece.group (filled m piece.ends (get_or r i 0)) p z → Reads m (length piece.ends) j d piece.group (filled m piece.ends (get_or r j 0)) q y → agree P i j p q ≡ agree piece.inner i j z y
      unfolding test
      full c d z y a b = counted ∙ sum_by-agree (IsRow k (m + length piece.ends)) _ (λ s. one ((get_or s i 0 == z) && (get_or s j 0 == y))) piece.inner piece.holed.rows
          (λ s v. ap₂ (λ x y. one (x && y)) (a.test (get_or s i 0) (inside s v i (omega arith))) (b.test (get_or s j 0) (inside s v j h)))
          ∙ sym (agree-is piece.inner i j z y)

      module _ (c d v w : ℕ) (first : IsPoint k K m t size far i p c v) (second : IsPoint k K m t size far j q d w) where
        none_first : ((s : ℕ) → s < m + length piece.ends → filled m piece.ends (get_or r i 0) s ≢ p) → agree P i j p q ≡ 0
        unfolding test
        none_first no_p = empty (λ s v e. no_p (get_or s i 0) (inside s v i (omega arith)) (both_equal _ _ p q e).0)

        none_second : ((s : ℕ) → s < m + length piece.ends → filled m piece.ends (get_or r j 0) s ≢ q) → agree P i j p q ≡ 0
        unfolding test
        none_second no_q = empty (λ s v e. no_q (get_or s j 0) (inside s v j h) (both_equal (filled m piece.ends (get_or r i 0) (get_or s i 0)) _ p q e).1)

        -- points of two columns of the master
        piece_one : c ≢ d → agree P i j p q ≡ one ((get_or r c 0 == v) && (get_or r d 0 == w))
        piece_one ne = elim (reads i p c v (omega arith) first) [
          | inl a ↦ elim (reads j q d w h second) [
            | inl b ↦ full c d a.1.0 b.1.0 a.1.1 b.1.1
                ∙ piece.holed.once i j a.1.0 b.1.0 l h a.1.1.bound b.1.1.bound (λ g e. clash a.1.0 b.1.0 g e a.1.1.kind b.1.1.kind)
                ∙ sym (one-true _ (both_equal-from (get_or r c 0) (get_or r d 0) v w a.0 b.0))
            | inr b ↦ none_second b.1 ∙ sym (one-false _ (λ e. b.0 (both_equal (get_or r c 0) (get_or r d 0) v w e).1))
          ]
          | inr a ↦ none_first a.1 ∙ sym (one-false _ (λ e. a.0 (both_equal (get_or r c 0) (get_or r d 0) v w e).0))
        ]
          where
            clash : (z y : ℕ) → m ≤ z → z ≡ y → ((z < m) × (c ≡ i)) ⊎ ((m ≤ z) × (piece.group z ≡ c)) → ((y < m) × (d ≡ j)) ⊎ ((m ≤ y) × (piece.group y ≡ d)) → ⊥
            clash z y g e (inl a) b = omega arith
            clash z y g e (inr a) (inl b) = omega arith
            clash z y g e (inr a) (inr b) = ne (sym a.1 ∙ ap piece.group e ∙ b.1)

        -- two infinite points of one column
        piece_none : c ≡ d → k ≤ c → agree P i j p q ≡ 0
        piece_none same high = elim (reads i p c v (omega arith) first) [
          | inl a ↦ elim (reads j q d w h second) [
            | inl b ↦ let e = meet a.1.0 b.1.0 a.1.1.bound b.1.1.bound a.1.1.kind b.1.1.kind in
                full c d a.1.0 b.1.0 a.1.1 b.1.1 ∙ ap (agree piece.inner i j a.1.0) (sym e.1) ∙ piece.holed.never i j a.1.0 l h e.0 a.1.1.bound
            | inr b ↦ none_second b.1
          ]
          | inr a ↦ none_first a.1
        ]
          where
            meet : (z y : ℕ) → z < m + length piece.ends → y < m + length piece.ends → ((z < m) × (c ≡ i)) ⊎ ((m ≤ z) × (piece.group z ≡ c)) → ((y < m) × (d ≡ j)) ⊎ ((m ≤ y) × (piece.group y ≡ d)) → (m ≤ z) × (z ≡ y)
            meet z y lz ly (inl a) b = absurd (omega arith)
            meet z y lz ly (inr a) (inl b) = absurd (omega arith)
            meet z y lz ly (inr a) (inr b) = (a.0, piece.differ z y a.0 lz b.0 ly (a.1 ∙ same ∙ sym b.1))

    piece_rows : All (IsRow k n) P
    unfolding filled_rows
    piece_rows = subst (All (IsRow k n)) piece.is (All-map_of (IsRow k (m + length piece.ends)) (IsRow k n) (filled_row k m piece.ends r) piece.inner piece.holed.rows (λ s v.
        row_of_filled k n m (length piece.ends) piece.ends r s
        (λ j l. omega (arith, ends.finite, mul-add-lt (get_or r j 0) m (m - 1) t (symbol j (omega (arith, ends.more))) (omega arith)))
        (λ s l h. let g = piece.truncated s l h in omega (arith, g.3, ends.below (piece.group s) (get_or r (piece.group s) 0) g.0 g.1 g.2)) v))

-- the rows for the pairs of infinite points of one group
pub record IsEnding (k K m t n : ℕ) (size : ℕ → ℕ) (far : ℕ → ℕ → ℕ) (L : List (List ℕ)) : Type 0 where
  pub rows : All (IsRow k n) L
  pub finite : (i j p q : ℕ) → i < j → j < k → (p < m * t) ⊎ (q < m * t) → agree L i j p q ≡ 0
  pub apart : (i j c d v w : ℕ) → i < j → j < k → k ≤ c → c < K → v < size c → k ≤ d → d < K → w < size d → c ≢ d → agree L i j (far c v) (far d w) ≡ 0
  pub inside : (i j c v w : ℕ) → i < j → j < k → k ≤ c → c < K → v < size c → w < size c → agree L i j (far c v) (far c w) ≡ 1

module _ (k K m t n : ℕ) (size : ℕ → ℕ) (far : ℕ → ℕ → ℕ) (pos : 0 < m) (ends : AreInfinite k K m t n size far)
    (M L : List (List ℕ)) (piece : List ℕ → List (List ℕ)) (master : IsOa M K t) (pieces : (r : List ℕ) → IsRow K t r → IsPiece k K m size far r (piece r)) (ending : IsEnding k K m t n size far L) where
  whole : (i j p q : ℕ) → agree (flat_map piece M ++ L) i j p q ≡ sum_by (λ r. agree (piece r) i j p q) M + agree L i j p q
  unfolding agree
  whole i j p q = sum_by-append _ (flat_map piece M) L ∙ ap (λ n. n + agree L i j p q) (sum_by-flat_map _ piece M)

  agree_any : (c d v w : ℕ) → c ≢ d → c < K → d < K → v < t → w < t → agree M c d v w ≡ 1
  agree_any c d v w ne l h lv lw = elim (cases_lt c d) [
    | inl a ↦ master.pairs c d v w a h lv lw
    | inr a ↦ agree-turn M c d v w ∙ master.pairs d c w v (omega arith) l lw lv
  ]

  apart : (i j p q c d v w : ℕ) → i < j → j < k → IsPoint k K m t size far i p c v → IsPoint k K m t size far j q d w → c ≢ d → agree L i j p q ≡ 0 → agree (flat_map piece M ++ L) i j p q ≡ 1
  apart i j p q c d v w l h first second ne none = omega (
    arith,
    whole i j p q,
    sum_by-agree (IsRow K t) _ (λ r. one ((get_or r c 0 == v) && (get_or r d 0 == w))) M master.rows (λ r s. piece_one k K m t n size far pos ends r s (piece r) (pieces r s) i j p q l h c d v w first second ne),
    agree-is M c d v w,
    agree_any c d v w ne first.column second.column first.value second.value,
  )

  near : (j p : ℕ) → j < k → p < m * t → IsPoint k K m t size far j p j (p / m)
  near j p l a = record { column = omega (arith, ends.more); value = div_below p m t pos (omega arith); kind = inl (refl, refl, a) }

  distant : (j c v : ℕ) → k ≤ c → c < K → v < size c → IsPoint k K m t size far j (far c v) c v
  distant j c v a b l = record { column = b; value = omega (arith, ends.fits c a b); kind = inr (a, l, refl) }

  both_far : (i j c d v w : ℕ) → i < j → j < k → k ≤ c → c < K → v < size c → k ≤ d → d < K → w < size d → agree (flat_map piece M ++ L) i j (far c v) (far d w) ≡ 1
  both_far i j c d v w l h a b lv e f lw = elim (cases_eq c d) [
    | inl s ↦ omega (
      arith,
      whole i j (far c v) (far d w),
      sum_by-none (IsRow K t) (λ r. agree (piece r) i j (far c v) (far d w)) M master.rows
          (λ r x. piece_none k K m t n size far pos ends r x (piece r) (pieces r x) i j (far c v) (far d w) l h c d v w (distant i c v a b lv) (distant j d w e f lw) s a),
      ap (λ d. agree L i j (far c v) (far d w)) s,
      ending.inside i j c v w l h a b lv (subst (λ d. w < size d) (sym s) lw),
    )
    | inr ne ↦ apart i j (far c v) (far d w) c d v w l h (distant i c v a b lv) (distant j d w e f lw) ne (ending.apart i j c d v w l h a b lv e f lw ne)
  ]

  pairs : (i j p q : ℕ) → i < j → j < k → p < n → q < n → agree (flat_map piece M ++ L) i j p q ≡ 1
  pairs i j p q l h a b = elim (cases_lt p (m * t)) [
    | inl x ↦ elim (cases_lt q (m * t)) [
      | inl y ↦ apart i j p q i j (p / m) (q / m) l h (near i p (omega arith) x) (near j q h y) (omega arith) (ending.finite i j p q l h (inl x))
      | inr y ↦ let g = ends.point q y b in subst (λ q. agree (flat_map piece M ++ L) i j p q ≡ 1) g.5
          (apart i j p (far g.0 g.1) i g.0 (p / m) g.1 l h (near i p (omega arith) x) (distant j g.0 g.1 g.2 g.3 g.4) (omega (arith, g.2)) (ending.finite i j p (far g.0 g.1) l h (inl x)))
    ]
    | inr x ↦ let f = ends.point p x a in subst (λ p. agree (flat_map piece M ++ L) i j p q ≡ 1) f.5 (elim (cases_lt q (m * t)) [
      | inl y ↦ apart i j (far f.0 f.1) q f.0 j f.1 (q / m) l h (distant i f.0 f.1 f.2 f.3 f.4) (near j q h y) (omega (arith, f.2)) (ending.finite i j (far f.0 f.1) q l h (inr y))
      | inr y ↦ let g = ends.point q y b in subst (λ q. agree (flat_map piece M ++ L) i j (far f.0 f.1) q ≡ 1) g.5 (both_far i j f.0 g.0 f.1 g.1 l h f.2 f.3 f.4 g.2 g.3 g.4)
    ])
  ]

  pub filled_is_oa : 2 ≤ k → IsOa (flat_map piece M ++ L) k n
  filled_is_oa two = oa_from_pairs k n (flat_map piece M ++ L) two
      (All-append (IsRow k n) (flat_map piece M) L (All-flat_map_of (IsRow K t) (IsRow k n) piece M master.rows (λ r s. piece_rows k K m t n size far pos ends r s (piece r) (pieces r s))) ending.rows) pairs
