-- The grammar of the questions.
use Rattle.std.specs.Prelude.{ℕ, ◌+◌, ◌*◌, Bool, ◌&&◌, if◌then◌else◌, List, [], ◌∷◌, codes, Option, Some, None}
use Rattle.counting.specs.Search.{◌<=◌}
use Rattle.design_base.specs.declared.query.Group.{Group}
use Rattle.design_base.specs.declared.query.Group.TheVariants.{Cyclic, Field}
use Rattle.design_base.specs.declared.query.Query.{Query}
use Rattle.design_base.specs.declared.query.Query.TheVariants.{Td, Df, Bibd, Gdd, Pbd}
use Rattle.design_base.specs.Limits.{in_bounds}
use Rattle.design_lines.specs.declared.command.Shape.{Shape}
use Rattle.design_lines.specs.declared.command.Shape.TheVariants.{Blocks, Rows, Squares}
use Rattle.design_lines.specs.declared.command.Asked.{Asked}
use Rattle.design_lines.specs.Reading.{Reader, Entry, gives, ◌then◌, number, pair, triple, ◌means◌, one_of, one_of_or}

-- a difference family over a group
abbrev pub family : Group → Reader Query
family group = triple then λ x. gives (Df group x.0 x.1 x.2)

unfoldable pub groups : List (Entry Query)
groups = (codes "z" means family Cyclic) ∷ (codes "f" means family Field) ∷ []

-- the questions in their normal words
unfoldable pub questions : List (Entry Query)
questions =
    (codes "td" means pair then λ x. gives (Td x.0 x.1))
    ∷ (codes "df" means one_of groups)
    ∷ (codes "bibd" means triple then λ x. gives (Bibd x.0 x.1 x.2))
    ∷ (codes "gdd" means triple then λ x. gives (Gdd x.0 x.1 x.2))
    ∷ (codes "pbd" means pair then λ x. gives (Pbd x.0 x.1))
    ∷ []

-- none of the question's numbers is above 65,535
abbrev pub is_narrow : Query → Bool
is_narrow (Td k n) = k <= 65535 && n <= 65535
is_narrow (Df group v k l) = v <= 65535 && k <= 65535 && l <= 65535
is_narrow (Bibd v k l) = v <= 65535 && k <= 65535 && l <= 65535
is_narrow (Gdd k g u) = k <= 65535 && g <= 65535 && u <= 65535
is_narrow (Pbd v s) = v <= 65535 && s <= 65535

unfoldable pub narrowed : Query → Option Query
narrowed q = if is_narrow q then Some q else None

-- a question in its normal words; nothing where one of its numbers is above 65,535
abbrev pub normal_question : Reader (Option Query)
normal_question = one_of questions then λ q. gives (narrowed q)

-- the question, where it is in bounds
abbrev pub asked : Shape → Query → Option Asked
asked shape q = if in_bounds q then Some (record { query = q; shape = shape }) else None

-- m mutually orthogonal Latin squares of order n
abbrev pub squares : ℕ → ℕ → Option Asked
squares n m = if 1 <= m then asked Squares (Td (m + 2) n) else None

-- other words for some of the questions
unfoldable pub other_questions : List (Entry (Option Asked))
other_questions =
    (codes "sts" means number then λ v. gives (asked Blocks (Bibd v 3 1)))
    ∷ (codes "plane" means number then λ n. gives (asked Blocks (Bibd (n * n + n + 1) (n + 1) 1)))
    ∷ (codes "oa" means pair then λ x. gives (asked Rows (Td x.0 x.1)))
    ∷ (codes "mols" means pair then λ x. gives (squares x.0 x.1))
    ∷ []

-- a question; nothing where it is out of bounds
unfoldable pub question : Reader (Option Asked)
question = one_of_or other_questions (one_of questions then λ q. gives (asked Blocks q))
