-- What the conditions of the basic builders give: room for the loops, and the design.
use Rattle.std.proofs.Common.{List, arith, length, subst, sym, ℕ, ◌*◌, ◌++◌, ◌+◌, ◌-◌, ◌<◌, ◌≡◌, ◌≤◌}
use Rattle.design_base.specs.Blocks.{IsBibd}
use Rattle.design_base.specs.Canonical.{canonical}
use Rattle.design_base.specs.declared.limits.TheConstants.{COVER_MAX, PACKED_MAX}
use Rattle.incidence.specs.Packed.{size_of}
use Rattle.block_counts.specs.Counts.{complement_cover}
use Rattle.gdd_pbd.proofs.BasicDesigns.{pairs_is_bibd, sum_is_bibd, whole_is_bibd}
use Rattle.gdd_pbd.proofs.Complements.{complement_of, omit_is_bibd}
use Rattle.gdd_pbd.proofs.Sizes.{bibd_count, bibd_size}
use Rattle.gdd_pbd.specs.Basic.{complement, omit_blocks, pair_blocks, whole_blocks}
use Rattle.gdd_pbd.specs.Conditions.{CanComplement, CanOmit, CanSum}
use Rattle.gdd_pbd.specs.Room.{most_blocks}

-- ---- designs of all points, of pairs, of all points but one
pub whole_design : (v l : ℕ) (rows : List (List ℕ)) → rows ≡ canonical (whole_blocks v l) → IsBibd rows v v l
whole_design v l rows is = subst (λ B. IsBibd B v v l) (sym is) (whole_is_bibd v l)

pub pairs_design : (v l : ℕ) (rows : List (List ℕ)) → rows ≡ canonical (pair_blocks v l) → IsBibd rows v 2 l
pairs_design v l rows is = subst (λ B. IsBibd B v 2 l) (sym is) (pairs_is_bibd v l)

pub omit_design : (v l : ℕ) (rows : List (List ℕ)) → CanOmit v l → rows ≡ canonical (omit_blocks v l) → IsBibd rows v (v - 1) l
omit_design v l rows can is = subst (λ B. IsBibd B v (v - 1) l) (sym is) (omit_is_bibd v l can.least can.times)

-- ---- sums and complements
pub sum_room : (v k l i : ℕ) (B C : List (List ℕ)) → CanSum v k l i B C → size_of B + size_of C < PACKED_MAX
sum_room v k l i B C can = omega (arith, bibd_size v k i B can.two can.points (omega (arith, can.most, can.covers)) can.first, bibd_size v k (l - i) C can.two can.points (omega (arith, can.covers)) can.second)

pub sum_design : (v k l i : ℕ) (B C rows : List (List ℕ)) → CanSum v k l i B C → rows ≡ canonical (B ++ C) → IsBibd rows v k l
sum_design v k l i B C rows can is = subst (λ D. IsBibd D v k l) (sym is) (sum_is_bibd B C v k l i can.most can.first can.second)

pub complement_room : (v k l : ℕ) (B : List (List ℕ)) → CanComplement v k l B → length B ≤ COVER_MAX * most_blocks
complement_room v k l B can = bibd_count v (v - k) (complement_cover v k l) B (omega (arith, can.left)) can.points can.covers can.design

pub complement_design : (v k l : ℕ) (B rows : List (List ℕ)) → CanComplement v k l B → rows ≡ canonical (complement v B) → IsBibd rows v k l
complement_design v k l B rows can is = subst (λ D. IsBibd D v k l) (sym is)
    (complement_of B v k l can.two can.left can.replication can.count (complement_cover v k l) (omega (arith, can.some)) can.design)
