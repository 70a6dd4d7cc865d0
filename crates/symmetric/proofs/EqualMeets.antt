-- In a symmetric design any two blocks meet in l points: so the sums of the meets and of their squares say.
use Rattle.std.proofs.Common.{List, [], ap, arith, get_or, length, sym, ℕ, ◌*◌, ◌+◌, ◌-◌, ◌<◌, ◌∙◌, ◌≡◌, ◌≢◌}
use Rattle.std.proofs.Math.Nat.{eq_of_mul-eq-mul_right}
use Rattle.std.proofs.lemmas.List.Edits.{length-remove}
use Rattle.std.specs.List.{sum_by}
use Rattle.std.specs.Prelude.{All, remove}
use Rattle.block_counts.proofs.Meeting.{meet_pairs_of_others, meets_of_others, pairs_and_meets}
use Rattle.block_counts.proofs.Replication.{block_count, number_times}
use Rattle.block_counts.specs.Counts.{meet, replication_number}
use Rattle.symmetric.proofs.EqualTerms.{each_equal}
use Rattle.symmetric.proofs.Removed.{left_elsewhere}
use Rattle.symmetric.specs.Symmetric.{IsSymmetric}

module _ (B : List (List ℕ)) (v k l : ℕ) (s : IsSymmetric B v k l) where
  replication_is : replication_number v k l ≡ k
  replication_is = eq_of_mul-eq-mul_right (k - 1) (let h = s.numbers.two in omega arith) (replication_number v k l) k
      (number_times B v k l s.design s.numbers.two 0 (let h = s.numbers.less in omega arith) ∙ s.numbers.equation)

  -- as many blocks as points
  pub places : length B ≡ v
  places = eq_of_mul-eq-mul_right k (let h = s.numbers.two in omega arith) (length B) v
      (sym (block_count B v k l s.design s.numbers.two) ∙ ap (λ r. v * r) replication_is)

  module _ (i : ℕ) (here : i < length B) where
    abbrev common : List ℕ → ℕ
    common b = meet (get_or B i []) b

    abbrev rest : List (List ℕ)
    rest = remove B i

    sum_of_meets : sum_by common rest ≡ l * (v - 1)
    sum_of_meets = meets_of_others B v k l s.design s.numbers.two i here ∙ ap (λ r. k * (r - 1)) replication_is ∙ sym s.numbers.equation

    squares_of_meets : sum_by (λ b. common b * common b) rest ≡ l * l * (v - 1)
    squares_of_meets = omega (
      arith,
      pairs_and_meets B v k l s.design s.numbers.two i here,
      meet_pairs_of_others B v k l s.design s.numbers.two i here,
      sum_of_meets,
      ap (λ n. n * (l - 1)) s.numbers.equation,
      ap (λ n. n * (l * (v - 1))) (let e : l - 1 + 1 ≡ l = (let h = s.numbers.some in omega arith) in e),
    )

    pub meets_others : All (λ b. common b ≡ l) rest
    meets_others =
        let n : length rest ≡ v - 1 = omega (arith, length-remove B i here, places) in
        each_equal common l rest (sum_of_meets ∙ ap (λ t. l * t) (sym n)) (squares_of_meets ∙ ap (λ t. l * l * t) (sym n))

    -- any two blocks
    pub meets : (j : ℕ) → j < length B → j ≢ i → meet (get_or B i []) (get_or B j []) ≡ l
    meets j m ne = left_elsewhere (λ b. common b ≡ l) B i j [] here m ne meets_others
