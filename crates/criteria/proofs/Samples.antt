-- Small values of the table, computed.
use Rattle.std.proofs.Common.{◌≡◌, Some, None, refl, true}
use Rattle.design_base.specs.declared.query.Group.TheVariants.{Cyclic}
use Rattle.design_base.specs.declared.query.Query.TheVariants.{Td, Df, Bibd, Gdd, Pbd}
use Rattle.design_base.specs.declared.verdict.Criterion.TheVariants.{Replication, Count, Fisher, Groups, FewGroups, GroupReplication, GroupCount, Differences, Points}
use Rattle.criteria.specs.Criteria.{reason_of, reasons, comparing}

-- r would be 7/2
replication_sample : reason_of (Bibd 8 3 1) ≡ Some (comparing Replication true 7 2)
unfolding reason_of reasons
replication_sample = refl

-- r is 2, and there would be 10/3 blocks
count_sample : reason_of (Bibd 5 3 1) ≡ Some (comparing Count true 10 3)
unfolding reason_of reasons
count_sample = refl

fisher_sample : reason_of (Bibd 16 6 1) ≡ Some (comparing Fisher true 3 6)
unfolding reason_of reasons
fisher_sample = refl

-- the plane of order 2: r is k
plane_sample : reason_of (Bibd 7 3 1) ≡ None
unfolding reason_of reasons
plane_sample = refl

-- a plane of order 4 has five groups, and no design has six
five_groups : reason_of (Td 5 4) ≡ None
unfolding reason_of reasons
five_groups = refl

six_groups : reason_of (Td 6 4) ≡ Some (comparing Groups true 6 5)
unfolding reason_of reasons
six_groups = refl

-- groups of one point, of which there may be any number
one_point : reason_of (Td 66 1) ≡ None
unfolding reason_of reasons
one_point = refl

few_groups_sample : reason_of (Gdd 4 3 2) ≡ Some (comparing FewGroups true 2 4)
unfolding reason_of reasons
few_groups_sample = refl

groups_sample : reason_of (Gdd 4 2 4) ≡ Some (comparing Groups true 4 3)
unfolding reason_of reasons
groups_sample = refl

group_replication_sample : reason_of (Gdd 3 1 4) ≡ Some (comparing GroupReplication true 3 2)
unfolding reason_of reasons
group_replication_sample = refl

group_count_sample : reason_of (Gdd 4 1 7) ≡ Some (comparing GroupCount true 42 12)
unfolding reason_of reasons
group_count_sample = refl

differences_sample : reason_of (Df Cyclic 12 3 1) ≡ Some (comparing Differences true 11 6)
unfolding reason_of reasons
differences_sample = refl

-- blocks of 5 or 6 points through one point: one block, which holds at most 5 of the 6 others
points_sample : reason_of (Pbd 7 5) ≡ Some (comparing Points true 6 5)
unfolding reason_of reasons
points_sample = refl
