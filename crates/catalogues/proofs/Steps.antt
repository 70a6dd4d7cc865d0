-- One catalogue of a list was asked.
use Rattle.std.proofs.Common.{List, [], add-one, ap, get_or, map, refl, subst, sym, ℕ, ◌+◌, ◌<◌, ◌∙◌, ◌≡◌, length, slice_set}
use Rattle.std.proofs.lemmas.List.{length-map, map-set}
use Rattle.std.proofs.lemmas.Option.{slice_get-get_or, slice_get-map}
use Rattle.std.specs.Prelude.{None, Result, Some}
use Rattle.std.specs.declared.result.Result.TheVariants.{Err, Ok}
use Rattle.std.specs.Option.{option_map}
use Rattle.design_base.specs.declared.query.Query.{Query}
use Rattle.catalogues.specs.declared.outcome.Rejected.{Rejected}
use Rattle.catalogues.specs.Entries.{Seen}
use Rattle.catalogues.specs.Consults.{Asks, Begun, EndsWalk, Passed, Reached, StepAt, Steps, WalksTo}
use Rattle.catalogues.specs.declared.catalogue.OfferEnd.{OfferEnd}
use Rattle.catalogues.specs.declared.outcome.Offered.{Offered}
use Rattle.catalogues.specs.declared.outcome.Offered.TheVariants.{Fit}
use Rattle.catalogues.specs.declared.outcome.ConsultEnd.{ConsultEnd}
use Rattle.catalogues.specs.declared.outcome.ConsultEnd.TheVariants.{Failed as EndFailed, Memory as EndMemory}

pub step_at : {X : Type 0} (see : X → Seen) (q : Query) (i : ℕ) (xs : List X) (x y : X) (answer : Result Offered OfferEnd) → i < length xs → x ≡ get_or xs i x → Asks q (see x) (see y) answer → StepAt q i (map see xs) (map see (slice_set xs i y)) answer
step_at see q i xs x y answer l e asks = record {
  was = see x;
  is = see y;
  at = slice_get-map see xs i ∙ ap (option_map see) (slice_get-get_or xs i x l ∙ ap Some (sym e));
  after = map-set see xs i y;
  asks = asks;
}

-- the next catalogue was asked, and offered no valid list
pub begun_more : (q : Query) (i : ℕ) (old mid new : List Seen) (S R : List Rejected) → Begun q i old mid S → Passed q i mid new S R → Begun q (i + 1) old new R
unfolding Begun
begun_more q i old mid new S R b p = rw add-one (mid, S, b, p)

pub begun_none : (q : Query) (old : List Seen) → Begun q 0 old old []
unfolding Begun
begun_none q old = (refl, refl)

pub reached : (q : Query) (i number : ℕ) (old mid new : List Seen) (S R : List Rejected) (C : List (List ℕ)) → Begun q i old mid S → StepAt q i mid new (Ok (Fit C)) × (R ≡ S) → number ≡ i + 1 → Reached q old new number R (Ok (Fit C))
reached q i number old mid new S R C b s e = record { place = i; before = mid; begun = subst (Begun q i old mid) (sym s.1) b; asks = s.0; counts = e }

pub ends_walk : (q : Query) (i : ℕ) (old mid new : List Seen) (S R : List Rejected) (end : ConsultEnd) → Begun q i old mid S → Steps q i mid new S R (Err end) → EndsWalk q old new end
ends_walk q i old mid new S R (EndFailed number) b s = (S, record { place = i; before = mid; begun = b; asks = s.0; counts = s.1 })
ends_walk q i old mid new S R EndMemory b s = (i + 1, S, s.0, s.1, record { place = i; before = mid; begun = b; asks = s.2; counts = refl })

pub walks_all : {X : Type 0} (see : X → Seen) (q : Query) (i : ℕ) (xs : List X) (new : List Seen) (R : List Rejected) → i ≡ length xs → Begun q i (map see xs) new R → WalksTo q (map see xs) new R None
walks_all see q i xs new R e b = subst (λ n. Begun q n (map see xs) new R) (e ∙ sym (length-map xs see)) b
