-- `write::write_zeros` meets its contract. A sector of zeros stands for any number of them.
use Rattle.std.proofs.Common.{arith}
use lib.ListN.{replicate}
use Rattle.laws.proofs.Bytes.{zeros-at}
use Rattle.spans.proofs.Sources.{span-zeros, source-zeros}
use Rattle.write.proofs.write_zeros.Goals as goal

pub write_file-requires-clause-source : goal.write_file-requires-clause-source
write_file-requires-clause-source c = source-zeros (replicate 512 0) c.args.n (omega arith) (zeros-at 512)

pub returns : goal.returns
returns c = rw (span-zeros (replicate 512 0) c.args.n (zeros-at 512)) at c.write_file.ensures
