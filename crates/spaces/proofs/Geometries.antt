-- The lines that are listed for two points each are those of the definition, and they are designs.
use Rattle.std.proofs.Common.{List, ap, ap₂, arith, get_or, length, map, refl, subst, suc, sym, true, ℕ, ◌<◌, ◌^◌, ◌∙◌, ◌≡◌}
use Rattle.std.proofs.Math.Nat.{one-le-pow, pos_of_ne-zero}
use Rattle.std.proofs.Math.Path.{fun_ext}
use Rattle.std.proofs.lemmas.List.{get_or-map, length-map, same_lists}
use Rattle.std.proofs.lemmas.List.Elements.{All-from_recursion}
use Rattle.counting.proofs.Ranges.{get_or-list_below, length-list_below}
use Rattle.counting.specs.Sums.{list_below}
use Rattle.design_base.proofs.Cover.{holds_below, holds_below-from}
use Rattle.design_base.specs.Blocks.{IsBibd, holds}
use Rattle.design_base.specs.Canonical.{canonical}
use Rattle.design_base.specs.Rings.{IsField}
use Rattle.spaces.proofs.Affine as affine
use Rattle.spaces.proofs.EachLine.{each_line_once}
use Rattle.spaces.proofs.Leads.{each_point, is_lead, points_apart}
use Rattle.spaces.proofs.LinearSpaces.{IsLinearSpace, design}
use Rattle.spaces.proofs.Projective as projective
use Rattle.spaces.proofs.Projective.{ArePlaced, AreCoefficients, holds_join_below, holds_join_below-from}
use Rattle.spaces.proofs.Space.{IsSpace, line}
use Rattle.spaces.proofs.Span.{InSpan}
use Rattle.spaces.proofs.VectorSpaces.{IsVectorSpace, space}
use Rattle.spaces.specs.Least.{least_lines}
use Rattle.spaces.specs.Lines.{affine_line, affine_lines_over, projective_lines_over, subspace}
use Rattle.spaces.specs.Points.{AreNumbers, ArePlaces, lead, points}
use Rattle.spaces.specs.Vectors.{combination, multiple, vector_sum}
use Rattle.spaces.specs.Coefficients.{AreAffine, AreProjective, combined_line}

-- the images of a list, by place
map_is : {X : Type 0} (f : X → ℕ) (g : ℕ → ℕ) (xs : List X) (d : X) → ((t : ℕ) → t < length xs → f (get_or xs t d) ≡ g t) → map f xs ≡ list_below (length xs) g
map_is f g xs d h = same_lists (map f xs) (list_below (length xs) g) (length-map xs f ∙ sym (length-list_below (length xs) g))
    (λ k e l. let m : k < length xs = omega (arith, length-map xs f) in get_or-map f xs k d e m ∙ h k m ∙ sym (get_or-list_below (length xs) g k e m))

module _ (q : ℕ) (add mul : ℕ → ℕ → ℕ) (field : IsField q add mul) (n : ℕ) where
  positive : 0 < q
  positive = let h : 1 < q = field.ring.one_below in omega arith

  abbrev sum : ℕ → ℕ → ℕ
  sum = vector_sum add q n

  abbrev scale : ℕ → ℕ → ℕ
  scale = multiple mul q n

  vectors : IsSpace q (q ^ n) add mul sum scale
  vectors = record { field = field; vectors = space q add mul field.ring n; some = one-le-pow n q positive }

  abbrev s : IsVectorSpace q (q ^ n) add mul sum scale
  s = space q add mul field.ring n

  -- ---- affine geometries
  module _ (P places : List ℕ) (W : List (ℕ × ℕ)) (numbers : AreNumbers (q ^ n) P) (same_places : AreNumbers (q ^ n) places) (coefficients : AreAffine add q W) where
    abbrev affine_pair : ℕ → ℕ → List ℕ
    affine_pair = combined_line add mul q n P places W

    -- (1 - t) * x + t * y is x + t * (y - x)
    straight : (a t x w : ℕ) → x < q ^ n → add a t ≡ 1 → combination add mul q n a x t (sum x w) ≡ sum x (scale t w)
    unfolding combination
    straight a t x w lx e = ap (sum (scale a x)) (s.scale-sum t x w) ∙ sym (s.sums_associate (scale a x) (scale t x) (scale t w))
        ∙ ap (λ z. sum z (scale t w)) (sym (s.add-scale a t x) ∙ ap (λ c. scale c x) e ∙ s.one-scale x lx)

    is_pair : (x y w : ℕ) → x < q ^ n → y < q ^ n → w < q ^ n → sum x w ≡ y → affine_pair x y ≡ line q (q ^ n) add mul sum scale vectors x w
    unfolding combined_line line
    is_pair x y w lx ly lw e = map_is _ (λ t. sum x (scale t w)) W (0, 0) (λ t l.
        let m : t < q = omega (arith, coefficients.count) in
        let c = get_or W t (0, 0) in
        ap (λ z. get_or places z 0) (ap₂ (λ y b. combination add mul q n c.0 (get_or P x 0) b y) (numbers.each y ly) (coefficients.second t m) ∙ ap₂ (λ x y. combination add mul q n c.0 x t y) (numbers.each x lx) (sym e)
        ∙ straight c.0 t x w lx (coefficients.sum_one t m))
        ∙ same_places.each (sum x (scale t w)) (s.sums_below x (scale t w))) ∙ ap (λ k. list_below k (λ t. sum x (scale t w))) coefficients.count

    pub affine_space : IsLinearSpace (q ^ n) q affine_pair
    affine_space = affine.linear q (q ^ n) add mul sum scale vectors affine_pair is_pair

    pub affine_design : IsBibd (canonical (least_lines affine_pair (q ^ n))) (q ^ n) q 1
    affine_design = design (q ^ n) q affine_pair (affine.linear q (q ^ n) add mul sum scale vectors affine_pair is_pair)

    pub affine_blocks : canonical (least_lines affine_pair (q ^ n)) ≡ affine_lines_over add mul q n
    unfolding affine_lines_over affine_line affine.every line
    affine_blocks = each_line_once (q ^ n) q affine_pair (affine.linear q (q ^ n) add mul sum scale vectors affine_pair is_pair)
        (affine.every q (q ^ n) add mul sum scale vectors affine_pair is_pair) (affine.each q (q ^ n) add mul sum scale vectors affine_pair is_pair)

  -- ---- projective geometries
  abbrev P : List ℕ
  P = points q n

  abbrev N : ℕ
  N = length P

  module _ (places : List ℕ) (W : List (ℕ × ℕ)) (finds : ArePlaces mul q n (q ^ n) places) (coefficients : AreProjective q W) where
    abbrev place : ℕ → ℕ
    place z = get_or places z 0

    abbrev a : ℕ → ℕ
    a t = (get_or W t (0, 0)).0

    abbrev b : ℕ → ℕ
    b t = (get_or W t (0, 0)).1

    placed : ArePlaced q (q ^ n) add mul sum scale vectors (lead q n) (is_lead q add mul field n) P place
    placed = record {
      points = λ i h. let p = All-from_recursion (λ x. (x < q ^ n) × (lead q n x ≡ 1)) P (each_point q n) i 0 h in record { small = p.0; one = p.1 };
      apart = points_apart q n;
      small = λ z h ne. (finds.each z (pos_of_ne-zero ne) h).within;
      multiple = λ z h ne. let p = finds.each z (pos_of_ne-zero ne) h in (p.factor, p.small, p.equal);
    }

    are_coefficients : AreCoefficients q (q ^ n) add mul sum scale vectors (lead q n) (is_lead q add mul field n) a b
    are_coefficients = record {
      one = λ t h. ap (λ w. w.0) (coefficients.each t h);
      slope = λ t h. ap (λ w. w.1) (coefficients.each t h);
      last_zero = ap (λ w. w.0) coefficients.last;
      last_one = ap (λ w. w.1) coefficients.last;
    }

    abbrev projective_pair : ℕ → ℕ → List ℕ
    projective_pair = projective.pair q (q ^ n) add mul sum scale vectors (lead q n) (is_lead q add mul field n) P place placed a b are_coefficients

    pair_is : combined_line add mul q n P places W ≡ projective_pair
    unfolding combined_line projective.pair projective.mix combination
    pair_is = fun_ext (λ i. fun_ext (λ j. map_is _ (λ t. place (sum (scale (a t) (get_or P i 0)) (scale (b t) (get_or P j 0)))) W (0, 0) (λ t l. refl)
        ∙ ap (λ k. list_below k (λ t. place (sum (scale (a t) (get_or P i 0)) (scale (b t) (get_or P j 0))))) (coefficients.count ∙ omega arith)))

    abbrev linear : IsLinearSpace N (suc q) projective_pair
    linear = projective.linear q (q ^ n) add mul sum scale vectors (lead q n) (is_lead q add mul field n) P place placed a b are_coefficients

    in_plane : (x y z : ℕ) → holds z (subspace add mul q n x y) ≡ true → InSpan q (q ^ n) add mul sum scale vectors (lead q n) (is_lead q add mul field n) x y z
    unfolding subspace combination
    in_plane x y z h =
        let c = holds_join_below q z (λ c. list_below q (λ k. combination add mul q n c x k y)) h in
        let k = holds_below q z (λ k. combination add mul q n c.0 x k y) c.2 in
        (c.0, k.0, record { first = c.1; second = k.1; made = k.2 })

    plane_holds : (x y z : ℕ) → InSpan q (q ^ n) add mul sum scale vectors (lead q n) (is_lead q add mul field n) x y z → holds z (subspace add mul q n x y) ≡ true
    unfolding subspace combination
    plane_holds x y z h = holds_join_below-from q z (λ c. list_below q (λ k. combination add mul q n c x k y)) h.0 h.2.first
        (holds_below-from q z (λ k. combination add mul q n h.0 x k y) h.1 h.2.second h.2.made)

    pub projective_space : IsLinearSpace N (suc q) (combined_line add mul q n P places W)
    projective_space = subst (IsLinearSpace N (suc q)) (sym pair_is) linear

    pub projective_design : IsBibd (canonical (least_lines (combined_line add mul q n P places W) N)) N (suc q) 1
    projective_design = subst (λ f. IsBibd (canonical (least_lines f N)) N (suc q) 1) (sym pair_is) (design N (suc q) projective_pair linear)

    pub projective_blocks : canonical (least_lines (combined_line add mul q n P places W) N) ≡ projective_lines_over add mul q n
    unfolding projective_lines_over projective.every
    projective_blocks = ap (λ f. canonical (least_lines f N)) pair_is ∙ each_line_once N (suc q) projective_pair linear
        (projective.every q (q ^ n) add mul sum scale vectors (lead q n) (is_lead q add mul field n) P place placed a b are_coefficients (subspace add mul q n) in_plane plane_holds)
        (projective.each q (q ^ n) add mul sum scale vectors (lead q n) (is_lead q add mul field n) P place placed a b are_coefficients (subspace add mul q n) in_plane plane_holds)
