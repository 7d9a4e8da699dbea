use Rattle.std.proofs.Common.{flat_map}
use Rattle.coded_stream.specs.Header.{first_text, transmission_text}
use Rattle.coded_stream.specs.Shown.{header_of}
use Rattle.coded_stream.proofs.Written.{front_of, both_ok, both_err}
use Rattle.coded_stream.proofs.writing.write_header.Goals as goal

pub returns-in-Err-clause-err : goal.returns-in-Err-clause-err
returns-in-Err-clause-err g c =
    let h = c.args.header.now in
    let first = c.in-Err.ensures.err in
    front_of _ _ (first_text h.version (header_of h)) (flat_map (transmission_text h.version) h.sends) first.0 first.1

pub returns-clause-ok : goal.returns-clause-ok
returns-clause-ok g c =
    let h = c.args.header.now in
    both_ok _ _ _ (first_text h.version (header_of h)) (flat_map (transmission_text h.version) h.sends) c.write_transmissions.result c.in_default.ensures.ok c.write_transmissions.ensures.ok

pub returns-clause-err : goal.returns-clause-err
returns-clause-err g c =
    let h = c.args.header.now in
    both_err _ _ _ (first_text h.version (header_of h)) (flat_map (transmission_text h.version) h.sends) c.write_transmissions.result c.in_default.ensures.ok c.write_transmissions.ensures.err
