-- The parts: how many fans each has, its reset bytes, its identity bytes. Until a part's own datasheet is at hand all have Table 5.1's bytes.
use Rattle.std.specs.Prelude.{cond, List, [], ◌∷◌, ℕ, eqb}
use Rattle.emc2305_parts.specs.declared.Part.{Part}
use Rattle.emc2305_parts.specs.declared.Part.TheVariants.{Emc2301, Emc2302, Emc2303, Emc2305}
use Rattle.emc2305_parts.specs.declared.Reset.{Reset}

-- how many fans a part has
abbrev pub fans_of : Part → ℕ
fans_of Emc2301 = 1
fans_of Emc2302 = 2
fans_of Emc2303 = 3
fans_of Emc2305 = 5

-- the part that a power-on with so many fans means; that of any number but 1, 2 and 3 is the five-fan part
abbrev pub part_with : ℕ → Part
part_with fans = cond (eqb fans 1) Emc2301 (cond (eqb fans 2) Emc2302 (cond (eqb fans 3) Emc2303 Emc2305))

-- Table 5.1's reset bytes: a fan's registers, by offset, of which that at the undefined offset 4 is never shown; 20h, 29h, 2Ah to 2Dh, EFh
abbrev pub table_reset : Reset
table_reset =
    record {
      fan = 0x00 ∷ 0x01 ∷ 0x2B ∷ 0x28 ∷ 0x00 ∷ 0x2A ∷ 0x19 ∷ 0x10 ∷ 0x66 ∷ 0xF5 ∷ 0x00 ∷ 0x00 ∷ 0xF8 ∷ 0xFF ∷ 0xFF ∷ 0xF8 ∷ [];
      configuration = 0x40;
      enable = 0x00;
      outputs = 0x00 ∷ 0x00 ∷ 0x00 ∷ 0x00 ∷ [];
      lock = 0x00;
    }

-- the reset bytes of each part
abbrev pub reset_of : Part → Reset
reset_of Emc2301 = table_reset
reset_of Emc2302 = table_reset
reset_of Emc2303 = table_reset
reset_of Emc2305 = table_reset

-- Table 5.1's identity bytes, from FCh on: product features, product, manufacturer, revision
abbrev pub table_identity : List ℕ
table_identity = 0x00 ∷ 0x34 ∷ 0x5D ∷ 0x80 ∷ []

-- the identity bytes of each part
abbrev pub identity_of : Part → List ℕ
identity_of Emc2301 = table_identity
identity_of Emc2302 = table_identity
identity_of Emc2303 = table_identity
identity_of Emc2305 = table_identity
