use Rattle.std.specs.Prelude.{ℕ, Bool, true, false, cond, ◌&&◌, ◌||◌, List, [], ◌∷◌, Some, None, Option, ◌==◌}
use Rattle.records.specs.declared.record.Record.{Record}
use Rattle.records.specs.declared.record.Record.TheVariants.{H1, H2, H3, H5, H9, Position, Velocity, Comment, Trailer}

abbrev is : ℕ → ℕ → ℕ → ℕ → Bool
is a b x y = a == x && b == y

-- the record types: H1, H2, H3, H5, H9, 10, 20, 00 and 99
abbrev pub type_of : ℕ → ℕ → Option Record
type_of a b =
    cond (is a b 72 49) (Some H1)
    (cond (is a b 72 50) (Some H2)
    (cond (is a b 72 51) (Some H3)
    (cond (is a b 72 53) (Some H5)
    (cond (is a b 72 57) (Some H9)
    (cond (is a b 49 48) (Some Position)
    (cond (is a b 50 48) (Some Velocity)
    (cond (is a b 48 48) (Some Comment)
    (cond (is a b 57 57) (Some Trailer) None))))))))

abbrev pub is_comment : Record → Bool
is_comment H1 = false
is_comment H2 = false
is_comment H3 = false
is_comment H5 = false
is_comment H9 = false
is_comment Position = false
is_comment Velocity = false
is_comment Comment = true
is_comment Trailer = false

-- what follows the type is a space, or anything in a comment
abbrev pub followed_by : ℕ → Option Record → Option Record
followed_by c None = None
followed_by c (Some t) = cond (c == 32 || is_comment t) (Some t) None

abbrev pub record_of : List ℕ → Option Record
record_of [] = None
record_of (a ∷ []) = None
record_of (a ∷ (b ∷ [])) = type_of a b
record_of (a ∷ (b ∷ (c ∷ rest))) = followed_by c (type_of a b)
