-- The first line of a text, read from its front.
use Rattle.std.proofs.Common.{◌≡◌, ℕ, ◌+◌, ◌<◌, ◌≤◌, Bool, true, false, cond, ◌==◌, List, [], ◌∷◌, ◌++◌, length, drop, None, Some, Option, append-nil, append_assoc, length-append, refl, ap, sym, subst, ◌∙◌, arith}
use Rattle.std.specs.Prelude.{if◌then◌else◌, option_map}
use Rattle.std.specs.Char.{is_ascii_digit}
use Rattle.std.specs.List.{list_all}
use Rattle.std.proofs.lemmas.Bool.Decides.{nat_tests}
use Rattle.std.proofs.lemmas.List.Splits.{slice_split-cons_yes}
use Rattle.std.proofs.lemmas.List.Sums.{take_while-cons}
use Rattle.design_lines.specs.Words.{is_blank}
use Rattle.block_texts.specs.BlockLines.{block_line, block_number, with_number}
use Rattle.block_texts.specs.BlockText.{is_feed, lines_of}
use Rattle.block_texts.specs.Fronts.{HasBadFirst, IsFirstRow, behind_blanks, behind_digits, digits_of, first_line, first_of, later_lines, line_end, plain_end, row_of_all}
use Rattle.block_texts.proofs.Fronts.{all_pass, apart, begins, behind_ends, behind_more, behind_none, parts-more, parts-onto}
use Rattle.block_texts.proofs.Numbers.{line-bad, line-bad-more, line-blank, line-none, line-return, line-word}

blank_no_feed : (byte : ℕ) → is_blank byte ≡ true → is_feed byte ≡ false
blank_no_feed byte is = grind (arith, nat_tests)

digit_no_feed : (byte : ℕ) → is_ascii_digit byte ≡ true → is_feed byte ≡ false
digit_no_feed byte is = grind (arith, nat_tests)

return_no_feed : (byte : ℕ) → (byte == 13) ≡ true → is_feed byte ≡ false
return_no_feed byte is = grind (arith, nat_tests)

return_unblank : (byte : ℕ) → (byte == 13) ≡ true → is_blank byte ≡ false
return_unblank byte is = grind (arith, nat_tests)

return_no_digit : (byte : ℕ) → (byte == 13) ≡ true → is_ascii_digit byte ≡ false
return_no_digit byte is = grind (arith, nat_tests)

feed_unblank : (byte : ℕ) → is_feed byte ≡ true → is_blank byte ≡ false
feed_unblank byte is = grind (arith, nat_tests)

feed_no_digit : (byte : ℕ) → is_feed byte ≡ true → is_ascii_digit byte ≡ false
feed_no_digit byte is = grind (arith, nat_tests)

feed_no_return : (byte : ℕ) → is_feed byte ≡ true → (byte == 13) ≡ false
feed_no_return byte is = grind (arith, nat_tests)

-- where no end of a line stands, no line feed does
going-plain : (byte : ℕ) (text : List ℕ) → plain_end (byte ∷ text) ≡ None → is_feed byte ≡ false
going-plain byte text going = of (is_feed byte) going
  where
    of : (b : Bool) → (if b then Some (Some text) else None) ≡ None → b ≡ false
    of true none = cc
    of false none = refl

-- numbers that were read, and those that come
abbrev onto : List ℕ → Option (List ℕ) → Option (List ℕ)
onto row numbers = option_map (λ more. row ++ more) numbers

onto-nothing : (numbers : Option (List ℕ)) → onto [] numbers ≡ numbers
onto-nothing None = refl
onto-nothing (Some row) = refl

onto-number : (row : List ℕ) (n : ℕ) (numbers : Option (List ℕ)) → onto row (with_number (Some n) numbers) ≡ onto (row ++ n ∷ []) numbers
onto-number row n None = refl
onto-number row n (Some more) = ap Some (sym (append_assoc row (n ∷ []) more))

onto-all : (row : List ℕ) (next : Option (List ℕ)) → onto row (row_of_all [] next) ≡ row_of_all row next
onto-all row None = ap Some (append-nil row)
onto-all row (Some text) = refl

-- blanks in front change nothing
record IsAlike (text rest : List ℕ) : Type 0 where
  pub numbers : block_line (first_line text) ≡ block_line (first_line rest)
  pub later : later_lines text ≡ later_lines rest
  pub all : block_line text ≡ block_line rest
  pub shorter : length rest ≤ length text

behind_blanks-alike : (text : List ℕ) → IsAlike text (behind_blanks text)
behind_blanks-alike [] = record { numbers = refl; later = refl; all = refl; shorter = omega arith }
behind_blanks-alike (byte ∷ text) = of (is_blank byte) refl (behind_blanks-alike text)
  where
    of : (b : Bool) → is_blank byte ≡ b → IsAlike text (behind_blanks text) → IsAlike (byte ∷ text) (behind_blanks (byte ∷ text))
    of true is rest =
        let lines : lines_of (byte ∷ text) ≡ (byte ∷ first_line text) ∷ later_lines text = parts-more is_feed byte text (blank_no_feed byte is) in
        subst (IsAlike (byte ∷ text)) (sym (behind_more is_blank byte text is)) (record {
          numbers = ap (λ l. block_line (first_of l)) lines ∙ line-blank byte (first_line text) is ∙ rest.numbers;
          later = ap (drop 1) lines ∙ rest.later;
          all = line-blank byte text is ∙ rest.all;
          shorter = omega (arith, rest.shorter);
        })
    of false is rest = subst (IsAlike (byte ∷ text)) (sym (behind_none is_blank byte text is)) (record { numbers = refl; later = refl; all = refl; shorter = omega arith })

-- the digits in front, where neither a blank nor an end of the line stands there, are its first number, or it is bad
record StepsOver (text : List ℕ) : Type 0 where
  pub numbers : block_line (first_line text) ≡ with_number (block_number (digits_of text)) (block_line (first_line (behind_digits text)))
  pub later : later_lines text ≡ later_lines (behind_digits text)
  pub all : block_line text ≡ with_number (block_number (digits_of text)) (block_line (behind_digits text))

line-begins : (text : List ℕ) → begins is_ascii_digit text ≡ false → begins is_ascii_digit (first_line text) ≡ false
line-begins [] fails = refl
line-begins (byte ∷ text) fails = of (is_feed byte) refl
  where
    of : (b : Bool) → is_feed byte ≡ b → begins is_ascii_digit (first_line (byte ∷ text)) ≡ false
    of true is = ap (λ l. begins is_ascii_digit (first_of l)) (slice_split-cons_yes is_feed byte text is)
    of false is = ap (λ l. begins is_ascii_digit (first_of l)) (parts-more is_feed byte text is) ∙ fails

digits-first : (byte : ℕ) (text : List ℕ) → is_ascii_digit byte ≡ true → 0 < length (digits_of (byte ∷ text))
digits-first byte text is =
    let some : length (digits_of (byte ∷ text)) ≡ length (byte ∷ digits_of text) = ap length (take_while-cons is_ascii_digit byte text) ∙ ap (λ b. length (cond b (byte ∷ digits_of text) [])) is in
    omega (arith, some)

over-digits : (byte : ℕ) (text : List ℕ) → is_ascii_digit byte ≡ true → StepsOver (byte ∷ text)
over-digits byte text is =
    let word : List ℕ = digits_of (byte ∷ text) in
    let rest : List ℕ = behind_digits (byte ∷ text) in
    let whole : byte ∷ text ≡ word ++ rest = apart is_ascii_digit (byte ∷ text) in
    let digits : list_all is_ascii_digit word ≡ true = all_pass is_ascii_digit (byte ∷ text) in
    let ends : begins is_ascii_digit rest ≡ false = behind_ends is_ascii_digit (byte ∷ text) in
    let lines : lines_of (byte ∷ text) ≡ (word ++ first_line rest) ∷ later_lines rest = ap lines_of whole ∙ parts-onto is_feed is_ascii_digit digit_no_feed word rest digits in
    record {
      numbers = ap (λ l. block_line (first_of l)) lines ∙ line-word word (first_line rest) (digits-first byte text is) digits (line-begins rest ends);
      later = ap (drop 1) lines;
      all = ap block_line whole ∙ line-word word rest (digits-first byte text is) digits ends;
    }

-- another byte is no part of a block line
record IsBadFront (text : List ℕ) : Type 0 where
  pub numbers : block_line (first_line text) ≡ None
  pub all : block_line text ≡ None

bad-front : (byte : ℕ) (text : List ℕ) → is_blank byte ≡ false → is_ascii_digit byte ≡ false → line_end (byte ∷ text) ≡ None → IsBadFront (byte ∷ text)
bad-front byte text unblank fails going = of (byte == 13) refl going
  where
    behind_return : (text : List ℕ) → (byte == 13) ≡ true → plain_end text ≡ None → IsBadFront (byte ∷ text)
    behind_return [] is going = cc
    behind_return (next ∷ text) is going =
        let first : first_line (byte ∷ next ∷ text) ≡ byte ∷ next ∷ first_line text =
        ap first_of (parts-more is_feed byte (next ∷ text) (return_no_feed byte is)) ∙ ap (λ l. byte ∷ first_of l) (parts-more is_feed next text (going-plain next text going)) in
        record { numbers = ap block_line first ∙ line-bad-more byte next (first_line text) unblank fails; all = line-bad-more byte next text unblank fails }

    of : (b : Bool) → (byte == 13) ≡ b → (if b then plain_end text else plain_end (byte ∷ text)) ≡ None → IsBadFront (byte ∷ text)
    of true is going = behind_return text is going
    of false is going =
        let first : first_line (byte ∷ text) ≡ byte ∷ first_line text = ap first_of (parts-more is_feed byte text (going-plain byte text going)) in
        record { numbers = ap block_line first ∙ line-bad byte (first_line text) unblank fails is; all = line-bad byte text unblank fails is }

over-other : (byte : ℕ) (text : List ℕ) → is_ascii_digit byte ≡ false → IsBadFront (byte ∷ text) → StepsOver (byte ∷ text)
unfolding block_number
over-other byte text is bad =
    let none : digits_of (byte ∷ text) ≡ [] = take_while-cons is_ascii_digit byte text ∙ ap (λ b. cond b (byte ∷ digits_of text) []) is in
    let no_number : (numbers : Option (List ℕ)) → None ≡ with_number (block_number (digits_of (byte ∷ text))) numbers = λ numbers. sym (ap (λ word. with_number (block_number word) numbers) none) in
    record {
      numbers = bad.numbers ∙ no_number (block_line (first_line (behind_digits (byte ∷ text))));
      later = ap later_lines (sym (behind_none is_ascii_digit byte text is));
      all = bad.all ∙ no_number (block_line (behind_digits (byte ∷ text)));
    }

steps-over : (text : List ℕ) → begins is_blank text ≡ false → line_end text ≡ None → StepsOver text
steps-over [] unblank going = cc
steps-over (byte ∷ text) unblank going = of (is_ascii_digit byte) refl
  where
    of : (b : Bool) → is_ascii_digit byte ≡ b → StepsOver (byte ∷ text)
    of true is = over-digits byte text is
    of false is = over-other byte text is (bad-front byte text unblank is going)

-- a line ends
plain-ended : (text : List ℕ) (next : Option (List ℕ)) → plain_end text ≡ Some next → IsFirstRow text [] next
plain-ended [] next is =
    let none : None ≡ next = cc in
    subst (IsFirstRow [] []) none (record { numbers = line-none; later = refl; all = line-none; few = omega arith })
plain-ended (byte ∷ text) next is = of (is_feed byte) refl is
  where
    of : (b : Bool) → is_feed byte ≡ b → (if b then Some (Some text) else None) ≡ Some next → IsFirstRow (byte ∷ text) [] next
    of true feed ends =
        let some : Some text ≡ next = cc in
        let lines : lines_of (byte ∷ text) ≡ [] ∷ lines_of text = slice_split-cons_yes is_feed byte text feed in
        subst (IsFirstRow (byte ∷ text) []) some (record {
          numbers = ap (λ l. block_line (first_of l)) lines ∙ line-none;
          later = ap (drop 1) lines;
          all = line-bad byte text (feed_unblank byte feed) (feed_no_digit byte feed) (feed_no_return byte feed);
          few = omega arith;
        })
    of false feed ends = cc

return-ended : (byte : ℕ) (text : List ℕ) (next : Option (List ℕ)) → (byte == 13) ≡ true → plain_end text ≡ Some next → IsFirstRow (byte ∷ text) [] next
return-ended byte [] next is ends =
    let none : None ≡ next = cc in
    let lines : lines_of (byte ∷ []) ≡ (byte ∷ []) ∷ [] = parts-more is_feed byte [] (return_no_feed byte is) in
    subst (IsFirstRow (byte ∷ []) []) none (record {
      numbers = ap (λ l. block_line (first_of l)) lines ∙ line-return byte is;
      later = ap (drop 1) lines;
      all = line-return byte is;
      few = omega arith;
    })
return-ended byte (feed ∷ text) next is ends = of (is_feed feed) refl ends
  where
    of : (b : Bool) → is_feed feed ≡ b → (if b then Some (Some text) else None) ≡ Some next → IsFirstRow (byte ∷ feed ∷ text) [] next
    of true found ends =
        let some : Some text ≡ next = cc in
        let lines : lines_of (byte ∷ feed ∷ text) ≡ (byte ∷ []) ∷ lines_of text =
        parts-more is_feed byte (feed ∷ text) (return_no_feed byte is) ∙ ap (λ l. (byte ∷ first_of l) ∷ drop 1 l) (slice_split-cons_yes is_feed feed text found) in
        subst (IsFirstRow (byte ∷ feed ∷ text) []) some (record {
          numbers = ap (λ l. block_line (first_of l)) lines ∙ line-return byte is;
          later = ap (drop 1) lines;
          all = line-bad-more byte feed text (return_unblank byte is) (return_no_digit byte is);
          few = omega arith;
        })
    of false found ends = cc

ended : (text : List ℕ) (next : Option (List ℕ)) → line_end text ≡ Some next → IsFirstRow text [] next
ended [] next is = plain-ended [] next is
ended (byte ∷ text) next is = of (byte == 13) refl is
  where
    of : (b : Bool) → (byte == 13) ≡ b → (if b then plain_end text else plain_end (byte ∷ text)) ≡ Some next → IsFirstRow (byte ∷ text) [] next
    of true return ends = return-ended byte text next return ends
    of false return ends = plain-ended (byte ∷ text) next ends

-- what was read of the first line, and what is left of the text
pub record GoesOn (text row rest : List ℕ) : Type 0 where
  pub numbers : block_line (first_line text) ≡ onto row (block_line (first_line rest))
  pub later : later_lines text ≡ later_lines rest
  pub all : block_line text ≡ onto row (block_line rest)
  pub few : length row + length rest ≤ length text

pub goes_on-first : (text row : List ℕ) → row ≡ [] → GoesOn text row text
goes_on-first text row none = subst (λ r. GoesOn text r text) (sym none) (record {
  numbers = sym (onto-nothing (block_line (first_line text)));
  later = refl;
  all = sym (onto-nothing (block_line text));
  few = omega arith;
})

pub goes_on-blanks : (text row rest left : List ℕ) → GoesOn text row rest → left ≡ behind_blanks rest → GoesOn text row left
goes_on-blanks text row rest left before is =
    let alike : IsAlike rest left = subst (IsAlike rest) (sym is) (behind_blanks-alike rest) in
    record {
      numbers = before.numbers ∙ ap (onto row) alike.numbers;
      later = before.later ∙ alike.later;
      all = before.all ∙ ap (onto row) alike.all;
      few = omega (arith, before.few, alike.shorter);
    }

unblank : (rest left : List ℕ) → left ≡ behind_blanks rest → begins is_blank left ≡ false
unblank rest left is = ap (begins is_blank) is ∙ behind_ends is_blank rest

-- a number takes a byte at least
number-shorter : (text : List ℕ) (n : ℕ) → block_number (digits_of text) ≡ Some n → length (behind_digits text) < length text
unfolding block_number
number-shorter text n is = of (digits_of text) is (ap length (apart is_ascii_digit text))
  where
    of : (word : List ℕ) → block_number word ≡ Some n → length text ≡ length (word ++ behind_digits text) → length (behind_digits text) < length text
    of [] none whole = cc
    of (byte ∷ word) some whole = omega (arith, whole, length-append word (behind_digits text))

pub goes_on-shorter : (rest blanks left : List ℕ) (n : ℕ) → blanks ≡ behind_blanks rest → block_number (digits_of blanks) ≡ Some n → left ≡ behind_digits blanks → length left < length rest
goes_on-shorter rest blanks left n behind is digits =
    let first : length blanks ≤ length rest = subst (λ l. length l ≤ length rest) (sym behind) (shorter-behind rest) in
    let next : length left < length blanks = subst (λ l. length l < length blanks) (sym digits) (number-shorter blanks n is) in
    omega (arith, first, next)
  where
    shorter-behind : (rest : List ℕ) → length (behind_blanks rest) ≤ length rest
    shorter-behind rest = let alike = behind_blanks-alike rest in alike.shorter

-- one more number was read
pub goes_on-number : (text row rest blanks left : List ℕ) (n : ℕ) → GoesOn text row rest → rest ≡ behind_blanks blanks → line_end rest ≡ None → block_number (digits_of rest) ≡ Some n → left ≡ behind_digits rest
    → GoesOn text (row ++ n ∷ []) left
goes_on-number text row rest blanks left n before behind going is digits =
    let over : StepsOver rest = steps-over rest (unblank blanks rest behind) going in
    subst (GoesOn text (row ++ n ∷ [])) (sym digits) (record {
      numbers = before.numbers ∙ ap (onto row) (over.numbers ∙ ap (λ o. with_number o (block_line (first_line (behind_digits rest)))) is) ∙ onto-number row n (block_line (first_line (behind_digits rest)));
      later = before.later ∙ over.later;
      all = before.all ∙ ap (onto row) (over.all ∙ ap (λ o. with_number o (block_line (behind_digits rest))) is) ∙ onto-number row n (block_line (behind_digits rest));
      few = omega (arith, before.few, number-shorter rest n is, length-append row (n ∷ []));
    })

-- no number stands where one has to
pub goes_on-bad : (text row rest blanks : List ℕ) → GoesOn text row rest → rest ≡ behind_blanks blanks → line_end rest ≡ None → block_number (digits_of rest) ≡ None → HasBadFirst text
goes_on-bad text row rest blanks before behind going is =
    let over : StepsOver rest = steps-over rest (unblank blanks rest behind) going in
    record {
      first = before.numbers ∙ ap (onto row) (over.numbers ∙ ap (λ o. with_number o (block_line (first_line (behind_digits rest)))) is);
      all = before.all ∙ ap (onto row) (over.all ∙ ap (λ o. with_number o (block_line (behind_digits rest))) is);
    }

-- the line ends
pub goes_on-end : (text row rest : List ℕ) (next : Option (List ℕ)) → GoesOn text row rest → line_end rest ≡ Some next → IsFirstRow text row next
goes_on-end text row rest next before is =
    let end : IsFirstRow rest [] next = ended rest next is in
    record {
      numbers = before.numbers ∙ ap (onto row) end.numbers ∙ ap Some (append-nil row);
      later = before.later ∙ end.later;
      all = before.all ∙ ap (onto row) end.all ∙ onto-all row next;
      few = omega (arith, before.few, end.few);
    }
