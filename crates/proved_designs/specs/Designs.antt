-- Designs as clauses see them.
use Rattle.std.specs.Prelude.{ℕ, List}
use Rattle.design_base.specs.declared.query.Query.{Query}

-- a question and a block list
pub record Design : Type 0 where
  pub query : Query
  pub blocks : List (List ℕ)
