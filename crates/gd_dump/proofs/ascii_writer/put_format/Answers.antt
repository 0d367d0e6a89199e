use Rattle.gd_dump.proofs.ascii_writer.put_format.Goals as goal

pub returns-in-Standard-clause-bytes : goal.returns-in-Standard-clause-bytes
returns-in-Standard-clause-bytes g c = rw c.in-Standard.is c.put.ensures.bytes

pub returns-in-Numsync-clause-bytes : goal.returns-in-Numsync-clause-bytes
returns-in-Numsync-clause-bytes g c = rw c.in-Numsync.is c.put-in-Numsync.ensures.bytes
