-- Calls one after another, by one pass.
use Rattle.std.proofs.Common.{◌≡◌, ℕ, refl, ◌∙◌, arith}
use Rattle.design_base.specs.declared.query.Query.{Query}
use Rattle.rule_table.specs.Told.{Learns, IsPaid}
use Rattle.memo_cells.specs.Advances.{Advances}
use Rattle.memo_cells.specs.Knowledge.{PassState}

-- no call
pub advances_refl : (pass : PassState) (steps : ℕ) → Advances pass pass steps steps
advances_refl pass steps = record { memo = refl; keeps = λ i h. h; paid = omega arith }

-- calls and then more calls
pub advances_trans : (x y z : PassState) (a b c : ℕ) → Advances x y a b → Advances y z b c → Advances x z a c
advances_trans x y z a b c s t = record { memo = t.memo ∙ s.memo; keeps = λ i h. t.keeps i (s.keeps i h); paid = omega (arith, s.paid, t.paid) }

-- one decision
pub decided_advances : (q : Query) (x y : PassState) (a b : ℕ) → y.memo ≡ x.memo → Learns q x.knowledge.known y.knowledge.known → IsPaid x.knowledge.known y.knowledge.known a b
    → Advances x y a b
decided_advances q x y a b memo learns paid = record { memo = memo; keeps = learns.keeps; paid = paid }
