-- Groups are filled by copies over the blocks j, u, where j is the group and u the group of the one point more.
use Rattle.std.proofs.Common.{List, [], ap, ap₂, arith, inl, inr, map, refl, sym, ℕ, ◌++◌, ◌+◌, ◌<◌, ◌∙◌, ◌∷◌, ◌≡◌}
use Rattle.counting.proofs.Booleans.{cases_lt}
use Rattle.std.proofs.lemmas.List.Elements.{recursion_from_All}
use Rattle.std.specs.List.{AllByRecursion}
use Rattle.std.specs.Prelude.{All}
use Rattle.counting.proofs.Ranges.{join_below-same}
use Rattle.counting.specs.Sums.{join_below}
use Rattle.design_base.specs.Arrays.{place}
use Rattle.gdd_pbd.proofs.FilledWithPoint.{with_point-below, with_point-last}
use Rattle.gdd_pbd.proofs.Weighted.{place_by-at}
use Rattle.gdd_pbd.specs.Room.{FitsIn}
use Rattle.gdd_pbd.specs.Filling.{fill, fill_with_point, groups_of, place_by, rename, with_point}

-- renamings that agree on the points
pub rename_agree : (n : ℕ) (f g : ℕ → ℕ) (B : List (List ℕ)) → All (FitsIn n) B → ((x : ℕ) → x < n → f x ≡ g x) → rename f B ≡ rename g B
unfolding rename
rename_agree n f g B all same = blocks B (recursion_from_All (FitsIn n) B all)
  where
    points : (b : List ℕ) → AllByRecursion (λ x. x < n) b → map f b ≡ map g b
    points [] h = refl
    points (x ∷ b) h = ap₂ (λ y ys. y ∷ ys) (same x h.0) (points b h.1)

    blocks : (B : List (List ℕ)) → AllByRecursion (FitsIn n) B → map (map f) B ≡ map (map g) B
    blocks [] h = refl
    blocks (b ∷ B) h = ap₂ (λ c cs. c ∷ cs) (points b (recursion_from_All (λ x. x < n) b h.0.below)) (blocks B h.1)

first_group : (g p : ℕ) → place g 0 p ≡ p
unfolding place
first_group g p = omega arith

second_group : (g : ℕ) → place g 1 0 ≡ g
unfolding place
second_group g = omega arith

-- a point of the group itself, and the point more
pub place_by-own : (g j p : ℕ) (rest : List ℕ) → p < g → place_by g (j ∷ rest) p ≡ place g j p
place_by-own g j p rest l = ap (place_by g (j ∷ rest)) (sym (first_group g p)) ∙ place_by-at g (j ∷ rest) 0 p l

place_by-more : (g j u : ℕ) → 0 < g → place_by g (j ∷ u ∷ []) g ≡ place g u 0
place_by-more g j u pos = ap (place_by g (j ∷ u ∷ [])) (sym (second_group g)) ∙ place_by-at g (j ∷ u ∷ []) 1 0 pos

pub fill_by_groups : (g u : ℕ) (G D : List (List ℕ)) → 0 < g → All (FitsIn g) D → fill g u G D ≡ G ++ groups_of g u D u
unfolding fill groups_of
fill_by_groups g u G D pos all = ap (λ xs. G ++ xs) (join_below-same u _ _ (λ j l. rename_agree g (place g j) (place_by g (j ∷ u ∷ [])) D all (λ p m. sym (place_by-own g j p (u ∷ []) m))))

pub fill_with_point_by_groups : (g u : ℕ) (G D : List (List ℕ)) → 0 < g → All (FitsIn (g + 1)) D → fill_with_point g u G D ≡ G ++ groups_of g u D u
unfolding fill_with_point groups_of
fill_with_point_by_groups g u G D pos all = ap (λ xs. G ++ xs) (join_below-same u _ _ (λ j l. rename_agree (g + 1) (with_point g u j) (place_by g (j ∷ u ∷ [])) D all (λ p m. elim (cases_lt p g) [
  | inl a ↦ with_point-below g u j p a ∙ sym (place_by-own g j p (u ∷ []) a)
  | inr a ↦ let e : g ≡ p = omega arith in with_point-last g u j p a ∙ sym (place_by-more g j u pos) ∙ ap (place_by g (j ∷ u ∷ [])) e
])))

pub groups_plain : (g u : ℕ) (D : List (List ℕ)) → All (FitsIn g) D → join_below u (λ j. rename (place g j) D) ≡ groups_of g u D u
unfolding groups_of
groups_plain g u D all = join_below-same u _ _ (λ j l. rename_agree g (place g j) (place_by g (j ∷ u ∷ [])) D all (λ p m. sym (place_by-own g j p (u ∷ []) m)))

pub group_plain : (g j : ℕ) (D : List (List ℕ)) → All (FitsIn g) D → rename (place_by g (j ∷ [])) D ≡ rename (place g j) D
group_plain g j D all = rename_agree g (place_by g (j ∷ [])) (place g j) D all (λ p m. place_by-own g j p [] m)
