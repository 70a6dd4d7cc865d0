-- Entries of catalogues: those that they tell, where they do.
use Rattle.std.proofs.Common.{List, [], ap, ap₂, length, map, refl, subst, suc, sym, ℕ, ◌∙◌, ◌∷◌, ◌≡◌}
use Rattle.std.proofs.lemmas.List.{length-map}
use Rattle.std.specs.Prelude.{None, Option, Some}
use Rattle.catalogues.specs.Consulted.{AreHeld, AreTold, IsConsulted, IsHeld, consulted}
use Rattle.catalogues.specs.Entries.{Seen}
use Rattle.catalogues.specs.declared.catalogue.Entry.{Entry}
use Rattle.catalogues.specs.declared.outcome.Rejected.{Rejected}
use Rattle.design_base.specs.declared.query.Query.{Query}

abbrev pub told_of : List Seen → List (Option (List Entry))
told_of old = map (λ s. s.told) old

abbrev pub all_told : List (List Entry) → List (Option (List Entry))
all_told lists = map (λ es. Some es) lists

pub told_head : (s : Seen) (old : List Seen) (w : List Entry) (ws : List (List Entry)) → told_of (s ∷ old) ≡ all_told (w ∷ ws) → (s.told ≡ Some w) × (told_of old ≡ all_told ws)
told_head s old w ws e = (heads e, tails e)
  where
    heads : s.told ∷ told_of old ≡ Some w ∷ all_told ws → s.told ≡ Some w
    heads e = cc

    tails : s.told ∷ told_of old ≡ Some w ∷ all_told ws → told_of old ≡ all_told ws
    tails e = cc

pub length_told : (old : List Seen) (lists : List (List Entry)) → told_of old ≡ all_told lists → length old ≡ length lists
length_told old lists e = sym (length-map old (λ s. s.told)) ∙ ap length e ∙ length-map lists (λ es. Some es)

-- ---- there are some
some_entries : (told : Option (List Entry)) → (es : List Entry) × IsHeld told es
some_entries None = ([], tt)
some_entries (Some es) = (es, refl)

pub held_none : AreHeld [] []
unfolding AreHeld
held_none = refl

pub held_first : (s : Seen) (old : List Seen) (es : List Entry) (lists : List (List Entry)) → IsHeld s.told es → AreHeld old lists → AreHeld (s ∷ old) (es ∷ lists)
unfolding AreHeld
held_first s old es lists h hs = (h, hs)

pub some_held : (old : List Seen) → (lists : List (List Entry)) × AreHeld old lists
some_held [] = ([], held_none)
some_held (s ∷ old) = let rest = some_held old in let first = some_entries s.told in (first.0 ∷ rest.0, held_first s old first.0 rest.0 first.1 rest.1)

-- a list of entries for each catalogue, no more and no fewer
pub held_length : (old : List Seen) (lists : List (List Entry)) → AreHeld old lists → length lists ≡ length old
unfolding AreHeld
held_length [] lists h = ap length h
held_length (s ∷ old) [] h = absurd h
held_length (s ∷ old) (es ∷ lists) h = ap suc (held_length old lists h.1)

-- ---- where all are told, there are no others
same_entries : (told : Option (List Entry)) (es fs : List Entry) → IsHeld told es → told ≡ Some fs → es ≡ fs
same_entries None es fs h e = cc
same_entries (Some gs) es fs h e = cc

pub held_told : (old : List Seen) (lists all : List (List Entry)) → AreHeld old lists → AreTold old all → lists ≡ all
unfolding AreHeld
held_told [] lists [] h t = h
held_told [] lists (es ∷ all) h t = cc
held_told (s ∷ old) [] all h t = absurd h
held_told (s ∷ old) (es ∷ lists) [] h t = cc
held_told (s ∷ old) (es ∷ lists) (fs ∷ all) h t = let parts = told_head s old fs all t in ap₂ (λ es lists. es ∷ lists) (same_entries s.told es fs h.0 parts.0) (held_told old lists all h.1 parts.1)

-- so what was found is the walk's over these
pub found_told : (q : Query) (old new : List Seen) (R : List Rejected) (valid : Option (ℕ × List (List ℕ))) (all : List (List Entry)) → AreTold old all → (c : IsConsulted q old new R valid) →
    (c.lists ≡ all) × AreTold new (consulted q all).lists
found_told q old new R valid all t c = let e = held_told old c.lists all c.held t in
    (e, subst (λ lists. AreTold new (consulted q lists).lists) e (c.after (subst (AreTold old) (sym e) t)))
