-- The Chebyshev nodes of the orders 1 to 16, by their bits, each order's rising: order p has the p entries from p * (p - 1) / 2 on.
use Rattle.std.specs.Prelude.{List, [], ◌∷◌, ℕ, ◌+◌, ◌*◌, ◌-◌, ◌/◌, Float, get_or}
use Rattle.std.specs.Float.Ieee.{of_bits}
use Rattle.std.specs.Float.{binary64}

unfoldable pub bits : List ℕ
bits =
    0x3c91a62633145c07 ∷
    0xbfe6a09e667f3bcc ∷ 0x3fe6a09e667f3bcd ∷
    0xbfebb67ae8584cab ∷ 0x3c91a62633145c07 ∷ 0x3febb67ae8584cab ∷
    0xbfed906bcf328d46 ∷ 0xbfd87de2a6aea962 ∷ 0x3fd87de2a6aea964 ∷ 0x3fed906bcf328d46 ∷
    0xbfee6f0e134454ff ∷ 0xbfe2cf2304755a5d ∷ 0x3c91a62633145c07 ∷ 0x3fe2cf2304755a5e ∷ 0x3fee6f0e134454ff ∷
    0xbfeee8dd4748bf14 ∷ 0xbfe6a09e667f3bcc ∷ 0xbfd0907dc193068e ∷ 0x3fd0907dc1930690 ∷ 0x3fe6a09e667f3bcd ∷ 0x3feee8dd4748bf15 ∷
    0xbfef329c0558e96a ∷ 0xbfe904c37505de48 ∷ 0xbfdbc4c04d71abc0 ∷ 0x3c91a62633145c07 ∷ 0x3fdbc4c04d71abc2 ∷ 0x3fe904c37505de4b ∷
    0x3fef329c0558e969 ∷
    0xbfef6297cff75cb0 ∷ 0xbfea9b66290ea1a4 ∷ 0xbfe1c73b39ae68c6 ∷ 0xbfc8f8b83c69a608 ∷ 0x3fc8f8b83c69a60d ∷ 0x3fe1c73b39ae68c9 ∷
    0x3fea9b66290ea1a3 ∷ 0x3fef6297cff75cb0 ∷
    0xbfef838b8c811c17 ∷ 0xbfebb67ae8584ca9 ∷ 0xbfe491b7523c161d ∷ 0xbfd5e3a8748a0bf1 ∷ 0x3c91a62633145c07 ∷ 0x3fd5e3a8748a0bf7 ∷
    0x3fe491b7523c161d ∷ 0x3febb67ae8584cab ∷ 0x3fef838b8c811c17 ∷
    0xbfef9b24942fe45b ∷ 0xbfec83201d3d2c6c ∷ 0xbfe6a09e667f3bcc ∷ 0xbfdd0e2e2b44ddff ∷ 0xbfc4060b67a8536b ∷ 0x3fc4060b67a85377 ∷
    0x3fdd0e2e2b44de01 ∷ 0x3fe6a09e667f3bcd ∷ 0x3fec83201d3d2c6d ∷ 0x3fef9b24942fe45c ∷
    0xbfefac9e043842ef ∷ 0xbfed1bb48eee2c12 ∷ 0xbfe82f19bb3a28a0 ∷ 0xbfe14cedf8bb5808 ∷ 0xbfd207e7fd768dbf ∷ 0x3cb469898cc51702 ∷
    0x3fd207e7fd768dc1 ∷ 0x3fe14cedf8bb580c ∷ 0x3fe82f19bb3a28a1 ∷ 0x3fed1bb48eee2c14 ∷ 0x3fefac9e043842ef ∷
    0xbfefb9ea92ec689b ∷ 0xbfed906bcf328d46 ∷ 0xbfe963268b572491 ∷ 0xbfe37af93f9513ea ∷ 0xbfd87de2a6aea95e ∷ 0xbfc0b5150f6da2d1 ∷
    0x3fc0b5150f6da2d5 ∷ 0x3fd87de2a6aea964 ∷ 0x3fe37af93f9513ea ∷ 0x3fe963268b572492 ∷ 0x3fed906bcf328d46 ∷ 0x3fefb9ea92ec689b ∷
    0xbfefc44566966769 ∷ 0xbfedeba72ef20146 ∷ 0xbfea55e242a4c3d2 ∷ 0xbfe5384d024c2f82 ∷ 0xbfddbe064267c47b ∷ 0xbfcea1e54bc48db5 ∷
    0xbca72cece675d1fc ∷ 0x3fcea1e54bc48dc9 ∷ 0x3fddbe064267c47d ∷ 0x3fe5384d024c2f85 ∷ 0x3fea55e242a4c3d2 ∷ 0x3fedeba72ef20147 ∷
    0x3fefc44566966769 ∷
    0xbfefcc7d8c64135f ∷ 0xbfee344ad05d3f86 ∷ 0xbfeb185d590d5a44 ∷ 0xbfe6a09e667f3bcc ∷ 0xbfe106682221cd89 ∷ 0xbfd5234aca69aa00 ∷
    0xbfbca9b4332d6f4d ∷ 0x3fbca9b4332d6f55 ∷ 0x3fd5234aca69aa02 ∷ 0x3fe106682221cd8a ∷ 0x3fe6a09e667f3bcd ∷ 0x3feb185d590d5a44 ∷
    0x3fee344ad05d3f86 ∷ 0x3fefcc7d8c64135f ∷
    0xbfefd31f94f867c7 ∷ 0xbfee6f0e134454ff ∷ 0xbfebb67ae8584cab ∷ 0xbfe7c7d7a833bec0 ∷ 0xbfe2cf2304755a5d ∷ 0xbfda07f921061ace ∷
    0xbfca9cd9ac4258f6 ∷ 0x3cb469898cc51702 ∷ 0x3fca9cd9ac4258f2 ∷ 0x3fda07f921061ad4 ∷ 0x3fe2cf2304755a5e ∷ 0x3fe7c7d7a833bec2 ∷
    0x3febb67ae8584cab ∷ 0x3fee6f0e134454ff ∷ 0x3fefd31f94f867c6 ∷
    0xbfefd88da3d12525 ∷ 0xbfee9f4156c62dda ∷ 0xbfec38b2f180bdb0 ∷ 0xbfe8bc806b151741 ∷ 0xbfe44cf325091dd5 ∷ 0xbfde2b5d3806f63c ∷
    0xbfd294062ed59f02 ∷ 0xbfb917a6bc29b42f ∷ 0x3fb917a6bc29b438 ∷ 0x3fd294062ed59f05 ∷ 0x3fde2b5d3806f63e ∷ 0x3fe44cf325091dd6 ∷
    0x3fe8bc806b151741 ∷ 0x3fec38b2f180bdb1 ∷ 0x3fee9f4156c62dda ∷ 0x3fefd88da3d12526 ∷ []

-- entry k of the table
unfoldable pub entry : ℕ → Float
unfolding bits
entry k = of_bits binary64 (get_or bits k 0)

-- where the entries of order p start
abbrev pub start : (p : ℕ) → ℕ
start p = p * (p - 1) / 2

-- node i of order p
abbrev pub node : (p i : ℕ) → Float
node p i = entry (start p + i)
