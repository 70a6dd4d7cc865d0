-- The bytes at the front of a text, and the first of its parts.
use Rattle.std.proofs.Common.{◌≡◌, ℕ, zero, suc, ◌+◌, ◌<◌, ◌≤◌, Bool, true, false, cond, List, [], ◌∷◌, ◌++◌, length, take, drop, get_or, refl, ap, sym, ◌∙◌, arith}
use Rattle.std.specs.List.{list_all, onto_first, prefix_len, slice_split, take_while}
use Rattle.counting.proofs.Booleans.{both}
use Rattle.std.proofs.lemmas.List.Splits.{slice_split-cons_no, slice_split-cons_yes}
use Rattle.std.proofs.lemmas.List.Sums.{take_while-cons}
use Rattle.block_texts.specs.Fronts.{behind_all, first_of}

-- the first byte passes
abbrev pub begins : (ℕ → Bool) → List ℕ → Bool
begins passes [] = false
begins passes (byte ∷ text) = passes byte

module _ (passes : ℕ → Bool) where
  pub behind_none : (byte : ℕ) (text : List ℕ) → passes byte ≡ false → behind_all passes (byte ∷ text) ≡ byte ∷ text
  behind_none byte text fails = ap (λ b. drop (cond b (1 + prefix_len passes text) 0) (byte ∷ text)) fails

  pub behind_more : (byte : ℕ) (text : List ℕ) → passes byte ≡ true → behind_all passes (byte ∷ text) ≡ behind_all passes text
  behind_more byte text is =
      let next : 1 + prefix_len passes text ≡ suc (prefix_len passes text) = omega arith in
      ap (λ b. drop (cond b (1 + prefix_len passes text) 0) (byte ∷ text)) is ∙ ap (λ n. drop n (byte ∷ text)) next

  -- another byte stands behind them
  pub behind_ends : (text : List ℕ) → begins passes (behind_all passes text) ≡ false
  behind_ends [] = refl
  behind_ends (byte ∷ text) = of (passes byte) refl (behind_ends text)
    where
      of : (b : Bool) → passes byte ≡ b → begins passes (behind_all passes text) ≡ false → begins passes (behind_all passes (byte ∷ text)) ≡ false
      of true is rest = ap (begins passes) (behind_more byte text is) ∙ rest
      of false is rest = ap (begins passes) (behind_none byte text is) ∙ is

  -- they and what stands behind them are the text
  pub apart : (text : List ℕ) → text ≡ take_while passes text ++ behind_all passes text
  apart [] = refl
  apart (byte ∷ text) = of (passes byte) refl (apart text)
    where
      of : (b : Bool) → passes byte ≡ b → text ≡ take_while passes text ++ behind_all passes text → byte ∷ text ≡ take_while passes (byte ∷ text) ++ behind_all passes (byte ∷ text)
      of true is rest =
          let word : take_while passes (byte ∷ text) ≡ byte ∷ take_while passes text = take_while-cons passes byte text ∙ ap (λ b. cond b (byte ∷ take_while passes text) []) is in
          ap (λ t. byte ∷ t) rest ∙ sym (ap (λ w. w ++ behind_all passes (byte ∷ text)) word ∙ ap (λ t. (byte ∷ take_while passes text) ++ t) (behind_more byte text is))
      of false is rest = rw (take_while-cons passes byte text, is) refl

  pub all_pass : (text : List ℕ) → list_all passes (take_while passes text) ≡ true
  all_pass [] = refl
  all_pass (byte ∷ text) = of (passes byte) refl (all_pass text)
    where
      of : (b : Bool) → passes byte ≡ b → list_all passes (take_while passes text) ≡ true → list_all passes (take_while passes (byte ∷ text)) ≡ true
      of true is rest = rw (take_while-cons passes byte text, is) (rw (is, rest) refl)
      of false is rest = rw (take_while-cons passes byte text, is) refl

  -- so many pass and the next does not
  pub counted : (text : List ℕ) (count : ℕ) → count ≤ length text → list_all passes (take count text) ≡ true → (count < length text → passes (get_or text count 0) ≡ false) → prefix_len passes text ≡ count
  counted [] count short all stops = omega (arith, short)
  counted (byte ∷ text) zero short all stops = ap (λ b. cond b (1 + prefix_len passes text) 0) (stops (omega arith))
  counted (byte ∷ text) (suc count) short all stops =
      let split = both (passes byte) (list_all passes (take count text)) all in
      let rest : prefix_len passes text ≡ count = counted text count (omega (arith, short)) split.1 (λ more. stops (omega (arith, more))) in
      ap (λ b. cond b (1 + prefix_len passes text) 0) split.0 ∙ omega (arith, rest)

  -- so many pass at least
  pub counted_least : (text : List ℕ) (count : ℕ) → count ≤ length text → list_all passes (take count text) ≡ true → count ≤ prefix_len passes text
  counted_least [] count short all = short
  counted_least (byte ∷ text) zero short all = omega arith
  counted_least (byte ∷ text) (suc count) short all =
      let split = both (passes byte) (list_all passes (take count text)) all in
      let rest : count ≤ prefix_len passes text = counted_least text count (omega (arith, short)) split.1 in
      let next : prefix_len passes (byte ∷ text) ≡ 1 + prefix_len passes text = ap (λ b. cond b (1 + prefix_len passes text) 0) split.0 in
      omega (arith, rest, next)

-- the first part of a text begins with what stands before the first cut
module _ (cuts : ℕ → Bool) where
  pub parts-first : (text : List ℕ) → slice_split cuts text ≡ first_of (slice_split cuts text) ∷ drop 1 (slice_split cuts text)
  parts-first [] = refl
  parts-first (byte ∷ text) = of (cuts byte) refl
    where
      onto : (list : List (List ℕ)) → onto_first byte list ≡ first_of (onto_first byte list) ∷ drop 1 (onto_first byte list)
      onto [] = refl
      onto (part ∷ list) = refl

      of : (b : Bool) → cuts byte ≡ b → slice_split cuts (byte ∷ text) ≡ first_of (slice_split cuts (byte ∷ text)) ∷ drop 1 (slice_split cuts (byte ∷ text))
      of true is = rw (slice_split-cons_yes cuts byte text is) refl
      of false is = rw (slice_split-cons_no cuts byte text is) (onto (slice_split cuts text))

  pub parts-more : (byte : ℕ) (text : List ℕ) → cuts byte ≡ false → slice_split cuts (byte ∷ text) ≡ (byte ∷ first_of (slice_split cuts text)) ∷ drop 1 (slice_split cuts text)
  parts-more byte text uncut = slice_split-cons_no cuts byte text uncut ∙ ap (onto_first byte) (parts-first text)

  module _ (within : ℕ → Bool) (uncut : (byte : ℕ) → within byte ≡ true → cuts byte ≡ false) where
    pub parts-onto : (word text : List ℕ) → list_all within word ≡ true → slice_split cuts (word ++ text) ≡ (word ++ first_of (slice_split cuts text)) ∷ drop 1 (slice_split cuts text)
    parts-onto [] text all = parts-first text
    parts-onto (byte ∷ word) text all =
        let split = both (within byte) (list_all within word) all in
        parts-more byte (word ++ text) (uncut byte split.0) ∙ ap (λ parts. (byte ∷ first_of parts) ∷ drop 1 parts) (parts-onto word text split.1)
