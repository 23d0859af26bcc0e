-- What the C interface gives of each answer: document 01's numbers and values, case by case.
use Rattle.model.specs.Answers.{Summarized, Checked, Found, Listed, BytesRead, Changed, Repaired, Recovered, Sliced, Formatted, Longest}
use Rattle.model.specs.Geometry.{extent_sectors}
use Rattle.model.specs.Summary.{state_code, state_entries}
use Rattle.goofs.specs.declared.SummaryResult.{SummaryResult}
use Rattle.goofs.specs.declared.CheckResult.{CheckResult}
use Rattle.goofs.specs.declared.FindResult.{FindResult}
use Rattle.goofs.specs.declared.ListResult.{ListResult}
use Rattle.goofs.specs.declared.ReadResult.{ReadResult}
use Rattle.goofs.specs.declared.ChangeResult.{ChangeResult}
use Rattle.goofs.specs.declared.RepairResult.{RepairResult}
use Rattle.goofs.specs.declared.RecoverResult.{RecoverResult}
use Rattle.goofs.specs.declared.SliceResult.{SliceResult}
use Rattle.goofs.specs.declared.FormatResult.{FormatResult}
use Rattle.goofs.specs.declared.LongestResult.{LongestResult}

abbrev pub summary_numbers : Summarized → SummaryResult
summary_numbers a = record {
  code = a.number;
  files = a.summary.geometry.files;
  extents = a.summary.geometry.extents;
  extent_sectors = extent_sectors a.summary.geometry;
  state = state_code a.summary.state;
  entries = state_entries a.summary.state;
  edition = a.summary.geometry.edition;
}

abbrev pub check_numbers : Checked → CheckResult
check_numbers a = record { code = a.verdict.number; fault = a.verdict.fault; place = a.verdict.place }

abbrev pub find_numbers : Found → FindResult
find_numbers a = record {
  code = a.verdict.number;
  fault = a.verdict.fault;
  place = a.verdict.place;
  index = a.index.0;
  size = a.fields.size;
  version = a.fields.version;
  id = a.fields.id;
  mode = a.fields.mode;
  access_time = a.fields.access_time;
  change_time = a.fields.change_time;
  name_length = a.fields.name_length;
}

abbrev pub list_numbers : Listed → ListResult
list_numbers a = record {
  code = a.verdict.number;
  fault = a.verdict.fault;
  place = a.verdict.place;
  size = a.fields.size;
  version = a.fields.version;
  id = a.fields.id;
  mode = a.fields.mode;
  access_time = a.fields.access_time;
  change_time = a.fields.change_time;
  name_length = a.fields.name_length;
  length = a.length;
}

abbrev pub read_numbers : BytesRead → ReadResult
read_numbers a = record { code = a.verdict.number; fault = a.verdict.fault; place = a.verdict.place; count = a.count; length = a.length }

abbrev pub change_numbers : Changed → ChangeResult
change_numbers a = record { code = a.verdict.number; fault = a.verdict.fault; place = a.verdict.place; length = a.length }

abbrev pub repair_numbers : Repaired → RepairResult
repair_numbers a = record { code = a.verdict.number; fault = a.verdict.fault; place = a.verdict.place; length = a.length; freed = a.freed }

abbrev pub recover_numbers : Recovered → RecoverResult
recover_numbers a = record { code = a.number; length = a.length }

abbrev pub slice_numbers : Sliced → SliceResult
slice_numbers a = record { code = a.number; length = a.length; count = a.count }

abbrev pub format_numbers : Formatted → FormatResult
format_numbers a = record { code = a.number; length = a.length }

abbrev pub longest_numbers : Longest → LongestResult
longest_numbers a = record { code = a.number; length = a.length }
