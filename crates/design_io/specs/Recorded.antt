-- What the sources and the sinks are seen as.
use Rattle.std.specs.Prelude.{ℕ, List, [], ◌++◌, drop}
use Rattle.design_io.specs.Faults.{counted}

-- A source in memory: the bytes that are left, the numbers of the calls that fail, the number of the next call, and
-- the faults so far.
pub record Input : Type 0 where
  pub left : List ℕ
  pub failing : List ℕ
  pub next : ℕ
  pub faults : ℕ

-- A sink in memory: the bytes that it holds, how many it may hold, the numbers of the calls that fail, the number of
-- the next call, and the faults so far.
pub record Output : Type 0 where
  pub held : List ℕ
  pub room : ℕ
  pub failing : List ℕ
  pub next : ℕ
  pub faults : ℕ

-- A reader or a writer of std, and the faults so far.
pub record Counted (Inner : Type 0) : Type 0 where
  pub inner : Inner
  pub faults : ℕ

-- a source of these bytes before any call
abbrev pub new_input : List ℕ → List ℕ → Input
new_input bytes failing = record { left = bytes; failing = failing; next = 1; faults = 0 }

-- an empty sink before any call
abbrev pub new_output : ℕ → List ℕ → Output
new_output room failing = record { held = []; room = room; failing = failing; next = 1; faults = 0 }

-- after a call that gave so many bytes
abbrev pub after_read : Input → ℕ → Input
after_read input count = record input { left = drop count input.left; next = counted input.next }

-- after a call that failed
abbrev pub after_failed_read : Input → Input
after_failed_read input = record input { next = counted input.next; faults = counted input.faults }

-- after a call that took the piece
abbrev pub after_write : Output → List ℕ → Output
after_write output piece = record output { held = output.held ++ piece; next = counted output.next }

-- after a call that failed
abbrev pub after_failed_write : Output → Output
after_failed_write output = record output { next = counted output.next; faults = counted output.faults }
