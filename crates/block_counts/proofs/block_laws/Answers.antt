use Rattle.block_counts.proofs.Replication.{block_count, replication_law}
use Rattle.block_counts.proofs.Meeting.{meet_pairs_of_others, meets_of_others}
use Rattle.block_counts.proofs.Fisher.{fisher}
use Rattle.block_counts.proofs.Groups.{few_groups, group_count, group_replication}
use Rattle.block_counts.proofs.Parts.{parts}
use Rattle.block_counts.proofs.Families.{differences_counted}
use Rattle.block_counts.proofs.block_laws.Goals as goal

pub returns : goal.returns
returns c = record {
  replication = replication_law;
  count = block_count;
  meets = meets_of_others;
  meet_pairs = meet_pairs_of_others;
  fisher = fisher;
  group_replication = group_replication;
  group_count = group_count;
  few_groups = few_groups;
  parts = parts;
  differences = differences_counted;
}
