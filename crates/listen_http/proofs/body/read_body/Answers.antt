use Rattle.listen_http.proofs.body.read_body.Goals as goal

pub returns-in-Chunked-clause-is : goal.returns-in-Chunked-clause-is
returns-in-Chunked-clause-is g c = rw c.in-Chunked.is c.read_chunked.ensures.is
