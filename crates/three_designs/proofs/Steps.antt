-- How the lists of rows grow: a loop begins with none, and each round appends what the next number gives.
use Rattle.std.proofs.lemmas.List.{append-nil, append_assoc}
use Rattle.counting.proofs.Counts.{join_below_more, join_below_none}
use Rattle.counting.proofs.Ranges.{length-list_below}

pub ruleset steps = (append-nil, append_assoc, join_below_more, join_below_none, length-list_below)
