-- Texts of numbers that are kept, and rows that are put together of them.
use Rattle.std.proofs.Common.{◌≡◌, ℕ, ◌+◌, ◌-◌, ◌<◌, ◌≤◌, List, [], ◌∷◌, ◌++◌, inl, replicate, length, length-drop, length-take, take, drop, get_or, map, append-nil, arith, refl, ap, sym, ◌∙◌, min}
use Rattle.std.specs.Fmt.{decimal}
use Rattle.std.proofs.lemmas.List.{get_or-replicate, length-replicate, map-append, take_all, take_more}
use Rattle.std.proofs.lemmas.List.Concat.{flat_map-append}
use Rattle.design_lines.specs.NumberTexts.{AreTexts, IsText}
use Rattle.design_lines.specs.Printed.{line_of}
use Rattle.design_lines.specs.declared.number_texts.NumberText.{NumberText}
use Rattle.design_lines.proofs.Joined.{behind_spaces, spaced_behind}

-- none is kept yet
pub no_texts : (n : ℕ) (t : NumberText) → t.len ≡ 0 → AreTexts (replicate n t)
no_texts n t none = λ i d within. inl (rw (get_or-replicate n i t d (rw (length-replicate n t) at within)) none)

-- the text is no longer than its length says
pub text_short : (number : ℕ) (t : NumberText) → IsText number t → length (32 ∷ decimal number) ≤ 6
text_short number t is = let size = ap length is.text in omega (arith, is.short, size, length-take t.len t.bytes)

-- one more number behind a space
pub behind_more : (row : List ℕ) (i : ℕ) → i < length row → behind_spaces (map decimal (take (i + 1) row)) ≡ behind_spaces (map decimal (take i row)) ++ 32 ∷ decimal (get_or row i 0)
behind_more row i within =
    let next = decimal (get_or row i 0) in
    ap (λ l. behind_spaces (map decimal l)) (take_more row i 0 within)
    ∙ ap behind_spaces (map-append decimal (take i row) (get_or row i 0 ∷ []))
    ∙ flat_map-append (λ word. 32 ∷ word) (map decimal (take i row)) (next ∷ [])
    ∙ ap (λ text. behind_spaces (map decimal (take i row)) ++ text) (append-nil (32 ∷ next))

-- all numbers, without the first space
without_space : (row : List ℕ) (start : ℕ) → start ≡ min (length row) 1 → drop start (behind_spaces (map decimal row) ++ 10 ∷ []) ≡ line_of (map decimal row)
without_space [] start is = let e : start ≡ 0 = omega (arith, is) in rw e refl
without_space (n ∷ row) start is =
    let e : start ≡ 1 = omega (arith, is) in rw e (ap (λ text. text ++ 10 ∷ []) (sym (spaced_behind (decimal n) (map decimal row))))

pub row_printed : (row line : List ℕ) (start : ℕ) → start ≡ min (length row) 1 → line ≡ behind_spaces (map decimal row) ++ 10 ∷ [] → take (length line - start) (drop start line) ≡ line_of (map decimal row)
row_printed row line start first is =
    take_all (length line - start) (drop start line) (omega (arith, length-drop start line)) ∙ ap (drop start) is ∙ without_space row start first
