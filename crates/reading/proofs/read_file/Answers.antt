-- `reading::read_file` meets its contract. Refused, and no byte is given, or the span is copied out.
use Rattle.std.proofs.Common.{length, arith}
use Rattle.model.specs.Disk.{view}
use Rattle.model.specs.Catalogue.{catalogue_of}
use Rattle.laws.proofs.Results.{handed-on}
use Rattle.reading.proofs.Verdicts.{size_is}
use Rattle.reading.proofs.ReadAnswers.{file-count, nothing-given}
use Rattle.reading.proofs.read_file.Goals as goal

pub returns-in_err-r-clause-out_after : goal.returns-in_err-r-clause-out_after
returns-in_err-r-clause-out_after c =
    let x = c.args in
    rw (handed-on _ c.from_residual.ensures.1) (nothing-given (catalogue_of (view x.img.now)) (view x.img.now) x.out.now x.i.0 x.offset)

pub read_span-requires-clause-i_lt_free_file : goal.read_span-requires-clause-i_lt_free_file
read_span-requires-clause-i_lt_free_file c =
    let x = c.args in
    let p = c.requires.i_lt_files in
    let f = file-count (view x.img.now) x.i.0 x.offset x.asked x.time (length x.out.now) (length x.list.now) c.in_ok-r.r c.in_ok-r.ensures.value in
    let z = size_is x.img.now x.g x.i.0 c.requires.opened.is p.0 p.1 in
    (omega (arith, p.0, c.requires.opened.bounded.files-high), omega (arith, f.0, z, p.2))

pub read_span-requires-clause-n_in_bounds : goal.read_span-requires-clause-n_in_bounds
read_span-requires-clause-n_in_bounds c =
    let x = c.args in
    let f = file-count (view x.img.now) x.i.0 x.offset x.asked x.time (length x.out.now) (length x.list.now) c.in_ok-r.r c.in_ok-r.ensures.value in
    omega (arith, f.1)
