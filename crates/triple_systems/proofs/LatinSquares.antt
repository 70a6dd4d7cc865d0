-- Latin squares from fewer facts.
use Rattle.std.proofs.Common.{sym, ℕ, ◌<◌, ◌∙◌, ◌≡◌}
use Rattle.triple_systems.specs.Squares.{IsLatin, IsSymmetric}

-- a square that is its own mirror image has columns like its rows
pub symmetric_from_rows :
    (n : ℕ) (op : ℕ → ℕ → ℕ)
    → ((x y : ℕ) → x < n → y < n → op x y < n)
    → ((x y : ℕ) → x < n → y < n → op x y ≡ op y x)
    → ((x y z : ℕ) → x < n → y < n → z < n → op x y ≡ op x z → y ≡ z)
    → ((x z : ℕ) → x < n → z < n → (y : ℕ) × (y < n) × (op x y ≡ z))
    → IsSymmetric n op
symmetric_from_rows n op small turns cancels solves = record {
  latin = record {
    small = small;
    row_cancels = cancels;
    row_solves = solves;
    column_cancels = λ x y z k l m e. cancels x y z k l m (turns x y k l ∙ e ∙ turns z x m k);
    column_solves = λ x z k m. let w = solves x z k m in (w.0, w.1, turns w.0 x w.1 k ∙ w.2);
  };
  turns = turns;
}

-- a square that agrees with a Latin square is one
pub latin_same : (n : ℕ) (op other : ℕ → ℕ → ℕ) → ((x y : ℕ) → other x y ≡ op x y) → IsLatin n op → IsLatin n other
latin_same n op other same p = record {
  small = λ x y k l. rw (same x y) (p.small x y k l);
  row_cancels = λ x y z k l m e. p.row_cancels x y z k l m (sym (same x y) ∙ e ∙ same x z);
  row_solves = λ x z k m. let w = p.row_solves x z k m in (w.0, w.1, same x w.0 ∙ w.2);
  column_cancels = λ x y z k l m e. p.column_cancels x y z k l m (sym (same y x) ∙ e ∙ same z x);
  column_solves = λ x z k m. let w = p.column_solves x z k m in (w.0, w.1, same w.0 x ∙ w.2);
}
