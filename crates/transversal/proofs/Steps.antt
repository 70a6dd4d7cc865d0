-- The steps of the loops that write rows and blocks: what there is before the first, and what one more adds.
use Rattle.std.proofs.Common.{List, [], ap, arith, length, map, refl, subst, sym, take, ℕ, ◌*◌, ◌++◌, ◌+◌, ◌-◌, ◌<◌, ◌∙◌, ◌∷◌, ◌≡◌, ◌≤◌}
use Rattle.std.proofs.lemmas.List.{append-nil, append_assoc, length-map, map-append}
use Rattle.std.specs.Prelude.{Err, Ok, OnErr, Result}
use Rattle.std.proofs.Math.Seq.{take-append-add, take-append_seam}
use Rattle.counting.proofs.Counts.{join_below_more, join_below_none}
use Rattle.counting.specs.Sums.{join_below, list_below}
use Rattle.design_base.specs.Arrays.{blocks_of_rows}
use Rattle.transversal.specs.Constructions.{base_rows, parker_rows, product_row, product_rows, products_of, quadruple, raised, rows_below, translate, translated, translates_below}
use Rattle.incidence.proofs.RowsAndBlocks.{blocks_of_no_rows, blocks_of_rows_append, blocks_of_rows_next}
use Rattle.transversal.proofs.Translates.{translated_zero}

-- ---- the blocks of rows
-- a row more
pub blocks_of_list_more : (k n : ℕ) (f : ℕ → List ℕ) (m : ℕ) → blocks_of_rows k n (list_below (m + 1) f) ≡ blocks_of_rows k n (list_below m f) ++ blocks_of_rows k n (f m ∷ [])
blocks_of_list_more k n f m = ap (blocks_of_rows k n) (join_below_more m (λ i. f i ∷ [])) ∙ blocks_of_rows_append k n (list_below m f) (f m ∷ [])

-- the rows of one x more
pub rows_below_none : (n : ℕ) (f : ℕ → ℕ → List ℕ) → rows_below 0 n f ≡ []
unfolding rows_below
rows_below_none n f = join_below_none _

pub blocks_of_rows_below_more : (k n w : ℕ) (f : ℕ → ℕ → List ℕ) (m : ℕ) → blocks_of_rows k n (rows_below (m + 1) w f) ≡ blocks_of_rows k n (rows_below m w f) ++ blocks_of_rows k n (list_below w (f m))
unfolding rows_below
blocks_of_rows_below_more k n w f m = ap (blocks_of_rows k n) (join_below_more m _) ∙ blocks_of_rows_append k n _ (list_below w (f m))

-- the products of a row with another and with further ones
pub products_of_none : (k b : ℕ) (r : List ℕ) → products_of k b [] r ≡ []
unfolding products_of
products_of_none k b r = refl

pub blocks_of_products_next : (k n b : ℕ) (r row : List ℕ) (rest : List (List ℕ)) →
    blocks_of_rows k n (products_of k b (row ∷ rest) r) ≡ blocks_of_rows k n (product_row k b r row ∷ []) ++ blocks_of_rows k n (products_of k b rest r)
unfolding products_of
blocks_of_products_next k n b r row rest = blocks_of_rows_next k n (product_row k b r row) (products_of k b rest r)

-- the products of a row, and of further ones
pub product_rows_none : (k b : ℕ) (S : List (List ℕ)) → product_rows k b [] S ≡ []
unfolding product_rows
product_rows_none k b S = refl

pub blocks_of_product_rows_next : (k n b : ℕ) (row : List ℕ) (rest S : List (List ℕ)) →
    blocks_of_rows k n (product_rows k b (row ∷ rest) S) ≡ blocks_of_rows k n (products_of k b S row) ++ blocks_of_rows k n (product_rows k b rest S)
unfolding product_rows
blocks_of_product_rows_next k n b row rest S = blocks_of_rows_append k n (products_of k b S row) (product_rows k b rest S)

-- the rows of one i more
pub blocks_of_base_none : (n m c : ℕ) → c < 2 * m + 1 → blocks_of_rows 4 n (translate (2 * m + 1) c (base_rows m 0)) ≡ blocks_of_rows 4 n ((c ∷ c ∷ c ∷ c ∷ []) ∷ [])
unfolding translate base_rows join_below
blocks_of_base_none n m c finite = ap (λ x. blocks_of_rows 4 n ((x ∷ x ∷ x ∷ x ∷ []) ∷ [])) (translated_zero (2 * m + 1) c finite)

pub blocks_of_base_more : (n m c i : ℕ) →
    blocks_of_rows 4 n (translate (2 * m + 1) c (base_rows m (i + 1))) ≡ blocks_of_rows 4 n (translate (2 * m + 1) c (base_rows m i)) ++ blocks_of_rows 4 n (translate (2 * m + 1) c (quadruple m (i + 1)))
unfolding translate base_rows
blocks_of_base_more n m c i =
    ap (λ rows. blocks_of_rows 4 n (map (map (translated (2 * m + 1) c)) ((0 ∷ 0 ∷ 0 ∷ 0 ∷ []) ∷ rows))) (join_below_more i _)
    ∙ ap (blocks_of_rows 4 n) (map-append (map (translated (2 * m + 1) c)) ((0 ∷ 0 ∷ 0 ∷ 0 ∷ []) ∷ join_below i (λ i. quadruple m (i + 1))) (quadruple m (i + 1)))
    ∙ blocks_of_rows_append 4 n _ _

-- one translate more
pub translates_below_none : (n : ℕ) (R : List (List ℕ)) → translates_below n 0 R ≡ []
unfolding translates_below
translates_below_none n R = join_below_none _

pub blocks_of_translates_more : (k m n h : ℕ) (R : List (List ℕ)) → blocks_of_rows k m (translates_below n (h + 1) R) ≡ blocks_of_rows k m (translates_below n h R) ++ blocks_of_rows k m (translate n h R)
unfolding translates_below
blocks_of_translates_more k m n h R = ap (blocks_of_rows k m) (join_below_more h _) ∙ blocks_of_rows_append k m _ (translate n h R)

-- a list that starts as another one does and is no shorter: that one, and the first of what stands behind it
pub started : {X : Type 0} (xs ys old more : List X) → xs ++ ys ≡ old ++ more → length old ≤ length xs → xs ≡ old ++ take (length xs - length old) more
started xs ys old more e l =
    sym (take-append_seam xs ys) ∙ ap (take (length xs)) e
    ∙ ap (λ n. take n (old ++ more)) (let whole : length xs ≡ length old + (length xs - length old) = omega arith in whole) ∙ take-append-add old more (length xs - length old)

pub started_failed : {T E X : Type 0} (r : Result T E) (new xs ys old more : List X) → new ≡ xs → xs ++ ys ≡ old ++ more → length old ≤ length xs →
    OnErr r (new ≡ old ++ take (length new - length old) more)
started_failed (Ok x) new xs ys old more kept e l = tt
started_failed (Err x) new xs ys old more kept e l = subst (λ now. now ≡ old ++ take (length now - length old) more) (sym kept) (started xs ys old more e l)

-- the raised rows of a row and of further ones
pub raised_no_rows : (c : ℕ) → raised c [] ≡ []
unfolding raised
raised_no_rows c = refl

pub blocks_of_raised_rows_next : (k n c : ℕ) (row : List ℕ) (rest : List (List ℕ)) →
    blocks_of_rows k n (raised c (row ∷ rest)) ≡ blocks_of_rows k n (raised c (row ∷ [])) ++ blocks_of_rows k n (raised c rest)
unfolding raised
blocks_of_raised_rows_next k n c row rest = blocks_of_rows_next k n (map (λ x. c + x) row) (map (map (λ x. c + x)) rest)

pub length-raised : (c : ℕ) (R : List (List ℕ)) → length (raised c R) ≡ length R
unfolding raised
length-raised c R = length-map R (map (λ x. c + x))

pub blocks_of_parker : (k n m : ℕ) (R : List (List ℕ)) →
    blocks_of_rows k n (parker_rows m R) ≡ blocks_of_rows k n (translates_below (2 * m + 1) (2 * m + 1) (base_rows m m)) ++ blocks_of_rows k n (raised (2 * m + 1) R)
unfolding parker_rows
blocks_of_parker k n m R = blocks_of_rows_append k n (translates_below (2 * m + 1) (2 * m + 1) (base_rows m m)) (raised (2 * m + 1) R)

-- how a list of blocks grows by those of further rows
pub ruleset steps = (append-nil, append_assoc, join_below_none, rows_below_none, blocks_of_no_rows, blocks_of_list_more, blocks_of_rows_below_more, products_of_none, blocks_of_products_next, product_rows_none, blocks_of_product_rows_next, blocks_of_base_none, blocks_of_base_more, translates_below_none, blocks_of_translates_more, raised_no_rows, blocks_of_raised_rows_next, blocks_of_parker)
