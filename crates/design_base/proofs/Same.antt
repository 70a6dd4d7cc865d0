-- Questions that the test finds to be the same.
use Rattle.std.proofs.Common.{◌≡◌, ℕ, true, ◌&&◌, ◌==◌, refl}
use Rattle.std.specs.Cmp.Derive.{both_true}
use Rattle.design_base.specs.declared.query.Group.{Group}
use Rattle.design_base.specs.declared.query.Group.TheVariants.{Cyclic, Field}
use Rattle.design_base.specs.declared.query.Query.{Query}
use Rattle.design_base.specs.declared.query.Query.TheVariants.{Td, Df, Bibd, Gdd, Pbd}
use Rattle.design_base.specs.Same.{same_query, same_group}
use Rattle.counting.proofs.Booleans.{both, eq-eqb, eqb-true}

pub group_same : (g h : Group) → same_group g h ≡ true → g ≡ h
group_same Cyclic Cyclic e = refl
group_same Field Field e = refl
group_same Cyclic Field e = cc
group_same Field Cyclic e = cc

two : (a b a' b' : ℕ) → (a == a' && b == b') ≡ true → (a ≡ a') × (b ≡ b')
two a b a' b' e = let t = both (a == a') (b == b') e in (eqb-true a a' t.0, eqb-true b b' t.1)

three : (a b c a' b' c' : ℕ) → (a == a' && b == b' && c == c') ≡ true → (a ≡ a') × (b ≡ b') × (c ≡ c')
three a b c a' b' c' e = let t = both (a == a' && b == b') (c == c') e in let s = two a b a' b' t.0 in (s.0, s.1, eqb-true c c' t.1)

pub query_same : (p q : Query) → same_query p q ≡ true → p ≡ q
query_same (Td k n) (Td k' n') e = let t = two k n k' n' e in cc
query_same (Df g v k l) (Df g' v' k' l') e =
    let t = both (same_group g g' && v == v' && k == k') (l == l') e in
    let s = both (same_group g g' && v == v') (k == k') t.0 in
    let r = both (same_group g g') (v == v') s.0 in
    let a = group_same g g' r.0 in
    let b : v ≡ v' = eqb-true v v' r.1 in
    let c : k ≡ k' = eqb-true k k' s.1 in
    let d : l ≡ l' = eqb-true l l' t.1 in
    cc
query_same (Bibd v k l) (Bibd v' k' l') e = let t = three v k l v' k' l' e in cc
query_same (Gdd k g u) (Gdd k' g' u') e = let t = three k g u k' g' u' e in cc
query_same (Pbd v s) (Pbd v' s') e = let t = two v s v' s' e in cc
query_same p q e = cc

group_is : (g : Group) → same_group g g ≡ true
group_is Cyclic = refl
group_is Field = refl

eq_is : (n : ℕ) → (n == n) ≡ true
eq_is n = eq-eqb n n refl

pub query_is : (q : Query) → same_query q q ≡ true
query_is (Td k n) = both_true (eq_is k) (eq_is n)
query_is (Df g v k l) = both_true (both_true (both_true (group_is g) (eq_is v)) (eq_is k)) (eq_is l)
query_is (Bibd v k l) = both_true (both_true (eq_is v) (eq_is k)) (eq_is l)
query_is (Gdd k g u) = both_true (both_true (eq_is k) (eq_is g)) (eq_is u)
query_is (Pbd v s) = both_true (eq_is v) (eq_is s)
