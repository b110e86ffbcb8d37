-- The targets that are served (Apache Doris documentation, "Stream Load", and the HTTP interface of statements; what else is
-- not one of these is this project's own). Bytes from `?` on count for nothing, and no percent sequence is decoded.
use Rattle.std.specs.Prelude.{ℕ, ◌&&◌, Bool, true, false, not, List, [], ◌∷◌, codes, Option, Some, None, if◌then◌else◌}
use Rattle.std.specs.List.{slice_split, take_while}
use Rattle.std.specs.Str.{bytes_eq}
use Rattle.load_requests.specs.Bytes.{in_path, is_slash}

-- what stands before the first `?`
abbrev pub path_of : List ℕ → List ℕ
path_of target = take_while in_path target

-- the parts between the slashes
abbrev pub parts_of : List ℕ → List (List ℕ)
parts_of path = slice_split is_slash path

-- the parts of what stands behind a slash, if there is one
abbrev pub parts_behind : Option (List ℕ) → List (List ℕ)
parts_behind None = []
parts_behind (Some rest) = parts_of rest

-- the parts of a path that has five
abbrev pub Five : Type 0
Five = List ℕ × List ℕ × List ℕ × List ℕ × List ℕ

abbrev pub only_five : List (List ℕ) → Option Five
only_five (a ∷ b ∷ c ∷ d ∷ e ∷ []) = Some (a, b, c, d, e)
only_five other = None

-- the parts of a path that has four
abbrev pub Four : Type 0
Four = List ℕ × List ℕ × List ℕ × List ℕ

abbrev pub only_four : List (List ℕ) → Option Four
only_four (a ∷ b ∷ c ∷ d ∷ []) = Some (a, b, c, d)
only_four other = None

abbrev pub is_empty : List ℕ → Bool
is_empty [] = true
is_empty (b ∷ bs) = false

-- `/api/{db}/{table}/_stream_load`, by its parts: the database and the table
abbrev pub load_place : Option Five → Option (List ℕ × List ℕ)
load_place None = None
load_place (Some (root, api, db, table, last)) =
    if is_empty root && bytes_eq api (codes "api") && bytes_eq last (codes "_stream_load") && not (is_empty db) && not (is_empty table)
    then Some (db, table) else None

-- the parts of a target that ends a load of this database, but for its table
abbrev pub is_end : (root api db last : List ℕ) → Bool
is_end root api db last = is_empty root && bytes_eq api (codes "api") && bytes_eq last (codes "_stream_load_2pc") && not (is_empty db)

-- `/api/{db}/_stream_load_2pc`, by its parts: the database
abbrev pub end_place : Option Four → Option (List ℕ)
end_place None = None
end_place (Some (root, api, db, last)) = if is_end root api db last then Some db else None

-- `/api/{db}/{table}/_stream_load_2pc`, by its parts: the database; there has to be a table, whichever it is
abbrev pub table_end_place : Option Five → Option (List ℕ)
table_end_place None = None
table_end_place (Some (root, api, db, table, last)) = if is_end root api db last && not (is_empty table) then Some db else None

-- `/api/query/internal/{db}`, by its parts: the database
abbrev pub query_place : Option Five → Option (List ℕ)
query_place None = None
query_place (Some (root, api, query, internal, db)) =
    if is_empty root && bytes_eq api (codes "api") && bytes_eq query (codes "query") && bytes_eq internal (codes "internal") && not (is_empty db)
    then Some db else None

-- the five parts of a target's path, if it has five
unfoldable pub five_of : List ℕ → Option Five
five_of target = only_five (parts_of (path_of target))

-- the four parts of a target's path, if it has four
unfoldable pub four_of : List ℕ → Option Four
four_of target = only_four (parts_of (path_of target))

-- the database and the table that a load goes to
unfoldable pub load_target : List ℕ → List ℕ → Option (List ℕ × List ℕ)
load_target method target = if bytes_eq method (codes "PUT") then load_place (five_of target) else None

abbrev pub or_else : Option (List ℕ) → Option (List ℕ) → Option (List ℕ)
or_else None other = other
or_else (Some db) other = Some db

-- the database of a two-phase load that is to be ended
unfoldable pub end_target : List ℕ → List ℕ → Option (List ℕ)
end_target method target =
    if bytes_eq method (codes "PUT") then or_else (end_place (four_of target)) (table_end_place (five_of target)) else None

-- the database that a statement is for
unfoldable pub query_target : List ℕ → List ℕ → Option (List ℕ)
query_target method target = if bytes_eq method (codes "POST") then query_place (five_of target) else None
