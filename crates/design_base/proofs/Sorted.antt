-- What is sorted and holds the same blocks is the canonical form.
use Rattle.std.proofs.Common.{List, [], arith, false, get_or, map, refl, subst, suc, sym, true, ℕ, ◌∷◌, ◌≡◌}
use Rattle.counting.proofs.Booleans.{false≢true}
use Rattle.std.proofs.lemmas.Bool.Decides.{nat_tests}
use Rattle.std.specs.Cmp.Lexicographic.{slice_cmp}
use Rattle.std.specs.List.Sorted.{IsPermutation, IsSorted}
use Rattle.std.specs.Ordering.{is_lt, nat_cmp}
use Rattle.std.specs.Prelude.{nat_le}
use Rattle.counting.proofs.Sorting.{next, ordered_from_neighbours, sort_by_is}
use Rattle.counting.specs.Sorting.{IsOrder, Ordered, sort_by}
use Rattle.design_base.specs.Canonical.{canonical, lex_le}

lex-total : (a b : List ℕ) → lex_le a b ≡ false → lex_le b a ≡ true
unfolding lex_le
lex-total [] b e = absurd (false≢true (sym e))
lex-total (x ∷ a) [] e = refl
lex-total (x ∷ a) (y ∷ b) e = let h = lex-total a b in grind (arith, nat_tests)

lex-joins : (a b c : List ℕ) → lex_le a b ≡ true → lex_le b c ≡ true → lex_le a c ≡ true
unfolding lex_le
lex-joins [] b c e f = refl
lex-joins (x ∷ a) [] c e f = absurd (false≢true e)
lex-joins (x ∷ a) (y ∷ b) [] e f = absurd (false≢true f)
lex-joins (x ∷ a) (y ∷ b) (z ∷ c) e f = let h = lex-joins a b c in grind (arith, nat_tests)

lex-same : (a b : List ℕ) → lex_le a b ≡ true → lex_le b a ≡ true → a ≡ b
unfolding lex_le
lex-same [] [] e f = refl
lex-same [] (y ∷ b) e f = absurd (false≢true f)
lex-same (x ∷ a) [] e f = absurd (false≢true e)
lex-same (x ∷ a) (y ∷ b) e f = let h = lex-same a b in grind (arith, nat_tests)

pub lex_le-order : IsOrder lex_le
lex_le-order = record { total = lex-total; joins = lex-joins; same = lex-same }

-- the canonical form of B is any ordered list that holds the sorted blocks
pub canonical_is : (B C : List (List ℕ)) → IsPermutation (map (sort_by nat_le) B) C → Ordered lex_le C → C ≡ canonical B
unfolding canonical
canonical_is B C p h = sort_by_is lex_le lex_le-order (map (sort_by nat_le) B) C p h

-- ---- from what std's sorts ensure
lex_from_cmp : (a b : List ℕ) → is_lt (slice_cmp nat_cmp b a) ≡ false → lex_le a b ≡ true
unfolding lex_le
lex_from_cmp [] b e = refl
lex_from_cmp (x ∷ a) [] e = absurd (false≢true (sym e))
lex_from_cmp (x ∷ a) (y ∷ b) e = let h = lex_from_cmp a b in grind (arith, nat_tests)

pub sorted_from_sort : (B C : List (List ℕ)) → IsPermutation B C → IsSorted (slice_cmp nat_cmp) C → C ≡ sort_by lex_le B
sorted_from_sort B C p s = sort_by_is lex_le lex_le-order B C p (ordered_from_neighbours lex_le lex_le-order C
    (λ k d l. lex_from_cmp (get_or C k d) (get_or C (suc k) d) (subst (λ n. is_lt (slice_cmp nat_cmp (get_or C n d) (get_or C k d)) ≡ false) (next k) (s k d (omega arith) (omega arith)))))

pub canonical_from_sort : (B C : List (List ℕ)) → IsPermutation (map (sort_by nat_le) B) C → IsSorted (slice_cmp nat_cmp) C → C ≡ canonical B
unfolding canonical
canonical_from_sort B C p s = sorted_from_sort (map (sort_by nat_le) B) C p s
