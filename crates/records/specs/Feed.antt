-- The rules of a feed drive's record. Floats are those of single precision (binary32), rounded to nearest even.
use Rattle.std.specs.Prelude.{ℕ, ◌%◌, false, pos, negsuc, from_bits, to_bits, Float}
use Rattle.std.specs.Float.{fin, binary32}
use Rattle.std.specs.Float.Ieee.{add, mul, of_int}
use Rattle.records.specs.Rules.{Rules}
use Rattle.records.specs.Picks.{picked}
use Rattle.records.specs.declared.feed.Feed.{Feed}
use Rattle.records.specs.declared.feed.Measures.{Measures}

-- the floats of two bit patterns
abbrev pub measured : ℕ → ℕ → Measures
measured t l = record { tension = from_bits binary32 t; length = from_bits binary32 l }

-- the record as it is kept; the bits of every NaN are 7fc00000
abbrev pub kept : ℕ → Measures → Feed
kept n m = record { pick = n; tension = to_bits binary32 m.tension; length = to_bits binary32 m.length }

-- 0.25 and 0.5
abbrev pub quarter : Float
quarter = fin false 1 (negsuc 1)

abbrev pub half : Float
half = fin false 1 (negsuc 0)

abbrev pub whole : ℕ → Float
whole n = of_int binary32 (pos n)

-- length + n × 0.25, each operation rounded once
abbrev pub fed : Measures → ℕ → Measures
fed m n = record { tension = m.tension; length = add binary32 m.length (mul binary32 (whole n) quarter) }

-- tension × 0.5, then + n, each operation rounded once
abbrev pub pulled : Measures → ℕ → Measures
pulled m n = record { tension = add binary32 (mul binary32 m.tension half) (whole n); length = m.length }

abbrev pub feed_rules : Rules Feed
feed_rules = record {
  first = record { pick = 0; tension = 0; length = 0 };
  worked = λ r w. kept (picked r.pick) (fed (measured r.tension r.length) (w % 1024));
  sent = λ r q w. r;
  heard = λ r q w. kept r.pick (pulled (measured r.tension r.length) (w % 256));
}
