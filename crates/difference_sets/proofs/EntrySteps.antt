-- The code's table of families, read.
use Rattle.std.proofs.Common.{Bor, Bool, List, [], ap, arith, false, get_or, length, map, refl, suc, sym, take, true, zero, ℕ, ◌++◌, ◌+◌, ◌-◌, ◌<◌, ◌∙◌, ◌∷◌, ◌≡◌, ◌≤◌}
use Rattle.counting.proofs.Booleans.{and_from, bool_same, both, false≢true, le-leb, leb-true}
use Rattle.std.proofs.lemmas.List.{get_or-map, length-map, map-append, take_more}
use Rattle.std.specs.Prelude.{◌&&◌}
use Rattle.counting.specs.Search.{each_passes, ◌<=◌}
use Rattle.design_base.specs.declared.query.Group.{Group}
use Rattle.design_base.specs.declared.query.Group.TheVariants.{Cyclic}
use Rattle.field_tables.proofs.Search.{passes_at}
use Rattle.incidence.proofs.Sizes.{size_of-append, size_of-cons}
use Rattle.incidence.specs.Packed.{size_of}
use Rattle.difference_sets.specs.FamilySteps.{is_family_over, is_listed_family}
use Rattle.difference_sets.specs.Listed.{Family, families, family, family_at}
use Rattle.difference_sets.specs.Seen.{seen}
use Rattle.difference_sets.specs.declared.entries.Entry.{Entry}

module _ (E : List Entry) (table : map seen E ≡ families) (n : ℕ) where
  pub entry_count : length E ≡ length families
  entry_count = sym (length-map E seen) ∙ ap length table

  -- the entry of a number
  pub entry_seen : (m : ℕ) → m ≡ n → 1 ≤ n → n ≤ length families → seen (get_or E (m - 1) (record { group = Cyclic; v = 0; k = 0; l = 0; blocks = record { ref_ptr = (0, 0); now = [] } })) ≡ family_at n
  unfolding family_at
  entry_seen m same some few =
      let none : Family = family Cyclic 0 0 0 [] in
      sym (get_or-map seen E (m - 1) _ none (omega (arith, same, entry_count))) ∙ ap (λ fs. get_or fs (m - 1) none) table ∙ ap (λ m. get_or families (m - 1) none) same

  -- no number is outside
  pub no_entry : (group : Group) (v k l : ℕ) → (1 ≤ n → n ≤ length E → ⊥) → false ≡ is_listed_family n group v k l
  unfolding is_listed_family
  no_entry group v k l outside = bool_same _ _ (λ e. absurd (false≢true e)) (λ e.
      let a = both (1 <= n && n <= length families) (is_family_over (family_at n) group v k l) e in
      let b = both (1 <= n) (n <= length families) a.0 in
      absurd (outside (leb-true 1 n b.0) (omega (arith, entry_count, leb-true n (length families) b.1))))

  pub an_entry : (group : Group) (v k l : ℕ) → 1 ≤ n → n ≤ length families → is_family_over (family_at n) group v k l ≡ is_listed_family n group v k l
  unfolding is_listed_family
  an_entry group v k l some few = ap (λ b. b && is_family_over (family_at n) group v k l) (sym (and_from _ _ (le-leb 1 n some) (le-leb n (length families) few)))

-- the blocks of a family are few
abbrev is_small : Family → Bool
is_small f = size_of f.blocks <= 64

small_families : each_passes is_small families ≡ true
unfolding each_passes families
small_families = refl

pub entry_room : (n : ℕ) → 1 ≤ n → n ≤ length families → size_of (family_at n).blocks ≤ 64
unfolding family_at
entry_room n some few = leb-true _ 64 (passes_at is_small families small_families (n - 1) _ (omega arith))

-- one block more
abbrev pub blocks_of : List (Bor (List ℕ)) → List (List ℕ)
blocks_of blocks = map (λ block. block.now) blocks

module _ (blocks : List (Bor (List ℕ))) (i : ℕ) (inside : i < length blocks) where
  abbrev pub next : List ℕ
  next = (get_or blocks i (record { ref_ptr = (0, 0); now = [] })).now

  pub blocks_more : blocks_of (take (i + 1) blocks) ≡ blocks_of (take i blocks) ++ next ∷ []
  blocks_more = ap blocks_of (take_more blocks i _ inside) ∙ map-append (λ block. block.now) (take i blocks) (get_or blocks i _ ∷ [])

  pub size_more : size_of (blocks_of (take (i + 1) blocks)) ≡ size_of (blocks_of (take i blocks)) + length next + 1
  size_more = omega (arith, ap size_of blocks_more, size_of-append (blocks_of (take i blocks)) (next ∷ []), size_of-cons next [])

pub blocks_room : (blocks : List (Bor (List ℕ))) (i : ℕ) → i < length blocks → size_of (blocks_of (take i blocks)) + length (get_or blocks i (record { ref_ptr = (0, 0); now = [] })).now + 1 ≤ size_of (blocks_of blocks)
blocks_room [] i inside = absurd (omega arith)
blocks_room (b ∷ blocks) zero inside = omega (arith, size_of-cons b.now (blocks_of blocks))
blocks_room (b ∷ blocks) (suc i) inside = omega (
  arith,
  size_of-cons b.now (blocks_of blocks),
  size_of-cons b.now (blocks_of (take i blocks)),
  blocks_room blocks i (omega arith),
)
