-- Names and paths of groups (admin-guide/cgroup-v2, "Organizing Processes": a group is a directory, and its path the names from the root down).
-- Which bytes a name may have, and how many, are limits of our own.
use Rattle.std.specs.Prelude.{ℕ, Bool, false, ◌&&◌, ◌||◌, List, [], ◌∷◌, length, codes, nat_lt, nat_le, ◌==◌, if◌then◌else◌}
use Rattle.std.specs.List.{list_all, slice_split, before_last}
use Rattle.std.specs.Str.{bytes_eq}

-- an ASCII letter or digit, '.', '_' or '-'
abbrev pub is_name_byte : ℕ → Bool
is_name_byte b = (nat_le 48 b && nat_le b 57) || (nat_le 65 b && nat_le b 90) || (nat_le 97 b && nat_le b 122) || b == 46 || b == 95 || b == 45

-- 1 to 32 such bytes, and neither "." nor ".."
abbrev pub is_name : List ℕ → Bool
is_name word =
    if length word == 0 || nat_lt 32 (length word) then false
    else if bytes_eq word (codes ".") || bytes_eq word (codes "..") then false
    else list_all is_name_byte word

abbrev pub is_slash : ℕ → Bool
is_slash b = b == 47

-- "/", or names with a slash before each
abbrev pub is_path : List ℕ → Bool
is_path [] = false
is_path (b ∷ names) = b == 47 && (length names == 0 || list_all is_name (slice_split is_slash names))

abbrev pub or_slash : List ℕ → List ℕ
or_slash [] = 47 ∷ []
or_slash (b ∷ rest) = b ∷ rest

-- the path without its last slash and name; that of "/a" is "/"
abbrev pub parent_path : List ℕ → List ℕ
parent_path path = or_slash (before_last is_slash path)
