-- How a file is packed, by the bytes with which its format says that it begins: RFC 1952 (gzip),
-- the .xz file format 1.2.1, RFC 8878 (zstd), and `BZh` (bzip2).
use Rattle.std.specs.Prelude.{ℕ, nat_eq, List, [], ◌∷◌, Option, Some, None, codes, if◌then◌else◌}
use Rattle.std.specs.List.{starts_with}
use Rattle.td_explain.specs.declared.packing.Packing.{Packing}
use Rattle.td_explain.specs.declared.packing.Packing.TheVariants as packing

-- what is said of a file that is packed so
abbrev pub packing_name : Packing → List ℕ
packing_name packing.Gzip = codes "is packed by gzip"
packing_name packing.Xz = codes "is packed by xz"
packing_name packing.Zstd = codes "is packed by zstd"
packing_name packing.Bzip2 = codes "is packed by bzip2"

-- how a file with these bytes is packed, if it is
abbrev pub packing_of : List ℕ → Option Packing
packing_of bytes = if starts_with nat_eq bytes (31 ∷ 139 ∷ []) then Some packing.Gzip
    else (if starts_with nat_eq bytes (253 ∷ 55 ∷ 122 ∷ 88 ∷ 90 ∷ 0 ∷ []) then Some packing.Xz
    else (if starts_with nat_eq bytes (40 ∷ 181 ∷ 47 ∷ 253 ∷ []) then Some packing.Zstd
    else (if starts_with nat_eq bytes (codes "BZh") then Some packing.Bzip2 else None)))
