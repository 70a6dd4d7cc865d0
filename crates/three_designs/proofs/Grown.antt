-- The list of a doubled system as loops write it, and its size.
use Rattle.std.proofs.Common.{List, [], ap, ap₂, arith, length, map, subst, suc, sym, zero, refl, ℕ, ◌*◌, ◌++◌, ◌+◌, ◌-◌, ◌/◌, ◌∙◌, ◌∷◌, ◌≡◌, ◌≤◌}
use Rattle.std.proofs.Math.Nat.{div-mul-le_self, mul-le-mul}
use Rattle.std.proofs.lemmas.List.{append-nil, length-map, map-append}
use Rattle.std.proofs.lemmas.List.Concat.{flat_map-append}
use Rattle.std.specs.List.{flat_map}
use Rattle.std.proofs.lemmas.List.Elements.{All-head}
use Rattle.std.specs.Prelude.{All, nat_le}
use Rattle.counting.proofs.Lists.{each_all, sum_by-map, sum_by-same}
use Rattle.counting.proofs.Ranges.{join_below-same}
use Rattle.counting.proofs.Sorting.{length-sort_by, sum_by-sort_by}
use Rattle.counting.specs.Sorting.{sort_by}
use Rattle.counting.specs.Sums.{join_below, list_below}
use Rattle.design_base.specs.Blocks.{IsBlock}
use Rattle.design_base.specs.Canonical.{canonical, lex_le}
use Rattle.design_base.specs.declared.limits.TheConstants.{POINTS_MAX}
use Rattle.incidence.proofs.Sizes.{size_of-cons}
use Rattle.incidence.specs.Packed.{size_of}
use Rattle.three_designs.specs.Loops.{crossed_pairs}
use Rattle.three_designs.specs.Quadruples.{crossed, double_blocks, doubled, factor, factor_pair, moved}

map-list_below : {X Y : Type 0} (h : X → Y) (n : ℕ) (f : ℕ → X) → map h (list_below n f) ≡ list_below n (λ i. h (f i))
unfolding join_below
map-list_below h zero f = refl
map-list_below h (suc n) f = map-append h (list_below n f) (f n ∷ []) ∙ ap (λ ys. ys ++ h (f n) ∷ []) (map-list_below h n f)

flat_map-list_below : {X Y : Type 0} (h : X → List Y) (n : ℕ) (f : ℕ → X) → flat_map h (list_below n f) ≡ join_below n (λ i. h (f i))
unfolding join_below
flat_map-list_below h zero f = refl
flat_map-list_below h (suc n) f = flat_map-append h (list_below n f) (f n ∷ []) ∙ ap₂ (λ xs ys. xs ++ ys) (flat_map-list_below h n f) (append-nil (h (f n)))

crossed-factor : (w i : ℕ) → crossed w (factor w i) ≡ crossed_pairs w i
unfolding crossed factor crossed_pairs
crossed-factor w i = flat_map-list_below (λ p. map (λ q. p ++ moved w q) (list_below (w / 2) (factor_pair (w - 1) i))) (w / 2) (factor_pair (w - 1) i)
    ∙ join_below-same (w / 2) _ _ (λ s l. map-list_below (λ q. factor_pair (w - 1) i s ++ moved w q) (w / 2) (factor_pair (w - 1) i))

-- from list to list
pub grown : (w : ℕ) (S none first second third : List (List ℕ)) → none ≡ [] → first ≡ none ++ S → second ≡ first ++ map (moved w) S → third ≡ second ++ join_below (w - 1) (crossed_pairs w) → third ≡ double_blocks w S
unfolding double_blocks doubled
grown w S none first second third e f g h =
    h ∙ ap₂ (λ X Y. X ++ Y) (g ∙ ap (λ X. X ++ map (moved w) S) (f ∙ ap (λ X. X ++ S) e)) (join_below-same (w - 1) _ _ (λ i l. sym (crossed-factor w i)))

-- the room of the next block to come
pub next_room : (w : ℕ) (all rest : List (List ℕ)) (block : List ℕ) → all ≡ block ∷ rest → All (IsBlock w (λ size. size ≡ 4)) all → size_of rest + 5 ≡ size_of all
next_room w all rest block is each =
    let now : All (IsBlock w (λ size. size ≡ 4)) (block ∷ rest) = subst (All (IsBlock w (λ size. size ≡ 4))) is each in
    omega (arith, ap size_of is, size_of-cons block rest, (All-head (IsBlock w (λ size. size ≡ 4)) block rest now).size)

-- the crossed pairs of w points are few
pub pairs_few : (w : ℕ) → 4 * ((w - 1) * (w / 2 * (w / 2))) ≤ w * w * w
pairs_few w =
    let half : 2 * (w / 2) ≤ w = omega (arith, div-mul-le_self w 2) in
    let less : w - 1 ≤ w = omega arith in
    omega (arith, mul-le-mul less (mul-le-mul half half))

pub cube_few : (w : ℕ) → w + w ≤ POINTS_MAX → 8 * (w * w * w) ≤ POINTS_MAX * POINTS_MAX * POINTS_MAX
cube_few w small = omega (arith, mul-le-mul (mul-le-mul small small) small)

-- the canonical form has the same size
pub size_of-canonical : (B : List (List ℕ)) → size_of (canonical B) ≡ size_of B
unfolding canonical
size_of-canonical B = ap₂ (λ m n. m + n) (length-sort_by lex_le (map (sort_by nat_le) B) ∙ length-map B (sort_by nat_le))
    (sum_by-sort_by lex_le length (map (sort_by nat_le) B) ∙ sum_by-map length (sort_by nat_le) B ∙ sum_by-same _ length B (each_all _ (λ b. length-sort_by nat_le b) B))
