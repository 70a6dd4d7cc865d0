use Rattle.std.proofs.Common.{◌≡◌, ℕ, ◌+◌, ◌<◌, min, List, [], ◌++◌, length, take, drop, ap, sym, arith, length-drop}
use Rattle.std.proofs.lemmas.List.{take_rest, take-append-drop, drop-drop, drop_all}
use Rattle.design_io.proofs.memory.MemorySourceSource.read.Goals as goal

-- what is left behind the place `at` goes to the buffer, up to its end, and the rest stays
front_is_given : (bytes buf : List ℕ) (at count : ℕ) → count ≡ min (length (drop at bytes)) (length buf) → take count buf ≡ take count (drop at bytes)
    → (drop at bytes ≡ take count buf ++ drop (at + count) bytes) × (count ≡ 0 → 0 < length buf → drop (at + count) bytes ≡ [])
front_is_given bytes buf at count size copied = (
  rw (copied, ← drop-drop count at bytes) (sym (take-append-drop count (drop at bytes))),
  λ none room. drop_all (at + count) bytes (omega (arith, length-drop at bytes)),
)

pub returns-clause-bytes : goal.returns-clause-bytes
returns-clause-bytes c =
    let size = rw (c.deref-2.ensures.value, take_rest c.self.inside.bytes.items c.self.inside.at, ← c.copy_front-count.auto.buf) at c.copy_front-count.ensures.count in
    let copied = rw (c.deref-2.ensures.value, take_rest c.self.inside.bytes.items c.self.inside.at) at c.copy_front-count.ensures.copied in
    rw (ap (λ v. v.left) (sym c.self.view_is))
    (front_is_given c.self.inside.bytes.items c.copy_front-count.new.buf c.self.inside.at c.copy_front-count.result size copied)
