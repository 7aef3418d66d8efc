-- What the front of a mesh file and the file's length come to: the lines in their order, then the work.
use Rattle.std.specs.Prelude.{Result, not, List, [], ◌∷◌, ℕ, ◌+◌, ◌*◌, ltb, eqb, length, get_or}
use Rattle.answers.specs.declared.Refusal.{Refusal}
use Rattle.answers.specs.declared.Refusal.TheVariants.{ShortFront, LengthOff, NoTriangles}
use Rattle.answers.specs.Answers.{Line, line, first_of, yes_with}
use Rattle.mesh.specs.Bands.{work_of}

-- the bytes before the triangle count
abbrev pub header_bytes : ℕ
header_bytes = 80

-- those and the count's own
abbrev pub front_bytes : ℕ
front_bytes = header_bytes + 4

-- the number in the four bytes from here on, the lowest first
abbrev pub little_endian : List ℕ → ℕ → ℕ
little_endian s at = ((get_or s (at + 3) 0 * 256 + get_or s (at + 2) 0) * 256 + get_or s (at + 1) 0) * 256 + get_or s at 0

-- the triangle count that the front of a file states
abbrev pub triangles_of : List ℕ → ℕ
triangles_of s = little_endian s header_bytes

-- the bytes of a file with so many triangles
abbrev pub file_bytes : ℕ → ℕ
file_bytes n = front_bytes + 50 * n

-- fewer bytes are lent than the front of a file has (15), the file is not as long as its triangles make it (16), there are
-- no triangles (17)
abbrev pub mesh_lines : List ℕ → ℕ → List Line
mesh_lines s size =
    line (ltb (length s) front_bytes) ShortFront
    ∷ line (not (eqb size (file_bytes (triangles_of s)))) LengthOff
    ∷ line (eqb (triangles_of s) 0) NoTriangles
    ∷ []

-- the first of these lines that holds; where none does, the work
unfoldable pub mesh_of : List ℕ → ℕ → Result ℕ Refusal
mesh_of s size = yes_with (first_of (mesh_lines s size)) (work_of (triangles_of s))
