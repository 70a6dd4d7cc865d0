-- Pieces that are appended one after another, where the bytes are told.
use Rattle.std.proofs.Common.{◌≡◌, ℕ, ◌+◌, ◌<◌, List, [], ◌∷◌, ◌++◌, length, take, drop, get_or, subst, sym, ap, ◌∙◌, arith, length-append, Option, Some, Result, Ok, Err}
use Rattle.std.proofs.Math.Seq.{take-add, take-append-add}
use Rattle.std.proofs.lemmas.List.{take_all, take-append-le, take_more, drop_more, take-append-drop, append-nil}
use Rattle.std.proofs.lemmas.List.Concat.{flat_map-append}
use Rattle.std.proofs.lemmas.Option.{get_or_from_slice_get, slice_get_within}
use Rattle.std.specs.List.{flat_map, slice_get}
use Rattle.std.specs.Result.{IsErr, OnErr, OnOk}
use Rattle.std.specs.Io.KnownBytes.{Appends}
use Rattle.std.proofs.KnownBytes.{Appends-trans}
use Rattle.design_io.specs.Pieces.{AppendsPart, AppendsWhole}

-- the first bytes of a piece, and then the next of it
pub Appends-take_more : (a b c : Option (List ℕ)) (bs : List ℕ) (at count : ℕ) → Appends a b (take at bs) → Appends b c (take count (drop at bs)) → Appends a c (take (at + count) bs)
Appends-take_more a b c bs at count first second =
    rw (take-add at count bs) (Appends-trans a b c (take at bs) (take count (drop at bs)) first second)

-- a part of the first piece is a part of both
pub AppendsPart-first : {a b : Option (List ℕ)} {xs : List ℕ} (ys : List ℕ) → AppendsPart a b xs → AppendsPart a b (xs ++ ys)
AppendsPart-first {xs = xs} ys part = record {
  count = part.count;
  short = omega (arith, part.short, length-append xs ys);
  appended = rw (take-append-le part.count xs ys (omega (arith, part.short))) part.appended;
}

-- a part of the second piece after all of the first
pub AppendsPart-second : (a : Option (List ℕ)) {b c : Option (List ℕ)} (xs : List ℕ) {ys : List ℕ} → Appends a b xs → AppendsPart b c ys → AppendsPart a c (xs ++ ys)
AppendsPart-second a {b = b} {c = c} xs {ys = ys} first second = record {
  count = length xs + second.count;
  short = omega (arith, second.short, length-append xs ys);
  appended = rw (take-append-add xs ys second.count) (Appends-trans a b c xs (take second.count ys) first second.appended);
}

-- the second piece, written after all of the first
pub AppendsWhole-second : {T E : Type 0} (a b c : Option (List ℕ)) (r : Result T E) (xs ys : List ℕ) → Appends a b xs → AppendsWhole b c r ys → AppendsWhole a c r (xs ++ ys)
AppendsWhole-second a b c (Ok x) xs ys first second = Appends-trans a b c xs ys first second
AppendsWhole-second a b c (Err e) xs ys first second = AppendsPart-second a xs first second

-- a front that was appended, all of a piece exactly at `Ok`
pub AppendsWhole-front : {T E : Type 0} (a b : Option (List ℕ)) (r : Result T E) (bs : List ℕ) (count : ℕ) → OnOk r (count ≡ length bs) → OnErr r (count < length bs) → Appends a b (take count bs) → AppendsWhole a b r bs
AppendsWhole-front a b (Ok x) bs count whole part front = subst (Appends a b) (take_all count bs (omega (arith, whole))) front
AppendsWhole-front a b (Err e) bs count whole part front = record { count = count; short = part; appended = front }

-- a `?` that hands an error on
pub AppendsWhole-failed : {T E : Type 0} (a b : Option (List ℕ)) (r : Result T E) (bs : List ℕ) → IsErr r → AppendsPart a b bs → AppendsWhole a b r bs
AppendsWhole-failed a b (Ok x) bs failed part = cc
AppendsWhole-failed a b (Err e) bs failed part = part

-- the pieces of a list are those before a place, the one there and those behind it
flat_map_at : {X : Type 0} (f : X → List ℕ) (xs : List X) (i : ℕ) (d : X) → i < length xs
    → flat_map f xs ≡ flat_map f (take i xs) ++ (f (get_or xs i d) ++ flat_map f (drop (i + 1) xs))
flat_map_at f xs i d within =
    ap (flat_map f) (sym (take-append-drop i xs) ∙ ap (λ rest. take i xs ++ rest) (drop_more xs i d within)) ∙ flat_map-append f (take i xs) (get_or xs i d ∷ drop (i + 1) xs)

-- one more piece of a list, after those before it
pub Appends-flat_map : {X : Type 0} (a b c : Option (List ℕ)) (f : X → List ℕ) (xs : List X) (i : ℕ) (d : X) (piece : List ℕ)
    → Appends a b (flat_map f (take i xs)) → i < length xs → piece ≡ f (get_or xs i d) → Appends b c piece → Appends a c (flat_map f (take (i + 1) xs))
Appends-flat_map a b c f xs i d piece front within is next =
    rw (take_more xs i d within, flat_map-append f (take i xs) (get_or xs i d ∷ []), append-nil, ← is) (Appends-trans a b c (flat_map f (take i xs)) piece front next)

-- a `?` that hands on that a part of a piece was appended, after those before it
pub AppendsWhole-flat_map : {T E X : Type 0} (a b c : Option (List ℕ)) (r : Result T E) (f : X → List ℕ) (xs : List X) (i : ℕ) (d : X) (piece : List ℕ)
    → IsErr r → Appends a b (flat_map f (take i xs)) → i < length xs → piece ≡ f (get_or xs i d) → AppendsPart b c piece → AppendsWhole a c r (flat_map f xs)
AppendsWhole-flat_map a b c r f xs i d piece failed front within is next =
    let rest = flat_map f (drop (i + 1) xs) in
    AppendsWhole-failed a c r (flat_map f xs) failed
    (rw (flat_map_at f xs i d within, ← is) (AppendsPart-second a (flat_map f (take i xs)) front (AppendsPart-first rest next)))

-- one more piece of a list, whose element was read by `slice_get`
pub Appends-flat_map-get : {X : Type 0} (a b c : Option (List ℕ)) (f : X → List ℕ) (xs : List X) (i : ℕ) (x : X) (piece : List ℕ)
    → Appends a b (flat_map f (take i xs)) → slice_get xs i ≡ Some x → piece ≡ f x → Appends b c piece → Appends a c (flat_map f (take (i + 1) xs))
Appends-flat_map-get a b c f xs i x piece front there is next =
    Appends-flat_map a b c f xs i x piece front (slice_get_within xs i x there) (rw (get_or_from_slice_get xs i x x there) is) next

-- a `?` at a part of such a piece
pub AppendsWhole-flat_map-get : {T E X : Type 0} (a b c : Option (List ℕ)) (r : Result T E) (f : X → List ℕ) (xs : List X) (i : ℕ) (x : X) (piece : List ℕ)
    → IsErr r → Appends a b (flat_map f (take i xs)) → slice_get xs i ≡ Some x → piece ≡ f x → AppendsPart b c piece → AppendsWhole a c r (flat_map f xs)
AppendsWhole-flat_map-get a b c r f xs i x piece failed front there is next =
    AppendsWhole-flat_map a b c r f xs i x piece failed front (slice_get_within xs i x there) (rw (get_or_from_slice_get xs i x x there) is) next

-- A function that writes one piece after another has the attribute `using(design_io::proofs::Pieces::composed)`.
-- A loop over a list needs its invariant besides: `Appends` of `flat_map f (take i xs)`.
pub ruleset composed = (AppendsPart-first, AppendsWhole-second, AppendsWhole-failed, Appends-flat_map, AppendsWhole-flat_map, Appends-flat_map-get, AppendsWhole-flat_map-get)
