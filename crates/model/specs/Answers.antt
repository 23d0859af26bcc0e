-- What calls answer, as definitions speak of it: the numbers of document 01's table, and what is given beside them. The code answers a `Result`; `Results`
-- says what that is in these.
use Rattle.std.specs.Prelude.{ℕ}
use Rattle.model.specs.declared.FileIndex.{FileIndex}
use Rattle.model.specs.declared.Fields.{Fields}
use Rattle.model.specs.declared.Sector.{Sector}
use Rattle.model.specs.declared.Summary.{Summary}

-- no fault, or the first one's number and place
pub data Soundness : Type 0 where
  Sound : Soundness
  Faulty : ℕ → ℕ → Soundness

-- a number of the table; with 7 also the fault and its place, else both are 0
pub record Verdict : Type 0 where
  pub number : ℕ
  pub fault : ℕ
  pub place : ℕ

-- ---- one answer for each kind of call

pub record Summarized : Type 0 where
  pub number : ℕ
  pub summary : Summary

-- where an area starts, from a summary alone: 0 and the sector, or 3
pub record Located : Type 0 where
  pub number : ℕ
  pub sector : Sector

pub record Checked : Type 0 where
  pub verdict : Verdict

pub record Found : Type 0 where
  pub verdict : Verdict
  pub index : FileIndex
  pub fields : Fields

-- the name's bytes stand in the output; their count is the field `name_length`. Of list and read too, `length` is the write list's in bytes
pub record Listed : Type 0 where
  pub verdict : Verdict
  pub fields : Fields
  pub length : ℕ

pub record BytesRead : Type 0 where
  pub verdict : Verdict
  pub count : ℕ
  pub length : ℕ

-- create, delete, resize, write, rename, a set of renames: the write list's length in bytes
pub record Changed : Type 0 where
  pub verdict : Verdict
  pub length : ℕ

-- repair: how many table entries it frees, the write list's length in bytes. With number 0 the verdict's fault and place are the first fault that remains
pub record Repaired : Type 0 where
  pub verdict : Verdict
  pub freed : ℕ
  pub length : ℕ

pub record Recovered : Type 0 where
  pub number : ℕ
  pub length : ℕ

-- of a slice: `count` sector writes
pub record Sliced : Type 0 where
  pub number : ℕ
  pub length : ℕ
  pub count : ℕ

pub record Formatted : Type 0 where
  pub number : ℕ
  pub length : ℕ

pub record CarriedOut : Type 0 where
  pub number : ℕ

-- the most bytes that a call's list can have
pub record Longest : Type 0 where
  pub number : ℕ
  pub length : ℕ
