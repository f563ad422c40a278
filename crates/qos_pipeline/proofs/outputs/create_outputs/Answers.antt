use Rattle.std.proofs.Common.{map, slice_get, string_bytes}
use Rattle.port_files.specs.Among.{ChangesAmong-then}
use Rattle.qos_pipeline.proofs.Dropped.{all-named, created-some, created-tell, dropped-all}
use Rattle.qos_pipeline.proofs.outputs.create_outputs.Goals as goal

pub close_all-requires-clause-named : goal.close_all-requires-clause-named
close_all-requires-clause-named g c κs within =
    all-named g.H.Out.Sink (map string_bytes c.args.names.now) c.create_all.new.outs.items c.create_all.ensures.named

pub returns-then-is_err-clause-dropped : goal.returns-then-is_err-clause-dropped
returns-then-is_err-clause-dropped g c tells =
    let names = map string_bytes c.args.names.now in
    let outs = c.create_all.new.outs.items in
    let made = c.create_all.ensures in
    let shelf = c.create_all.new.shelf in
    let mid_tells = made.others.tells.1 tells in
    let tell = created-tell g.H.Shelf g.H.Out.Sink names outs c.requires.apart made.named c.args.shelf.now shelf (made.created tells) in
    dropped-all g.H.Shelf g.H.Out.Sink names outs c.requires.apart made.named c.args.shelf.now shelf (made.created tells)
    c.close_all.new.shelf mid_tells (λ some named. c.close_all.ensures.others some named (λ _. tell))
    (c.close_all.ensures.shut mid_tells tell names made.named c.requires.apart)

pub returns-then-is_err-clause-others : goal.returns-then-is_err-clause-others
returns-then-is_err-clause-others g c =
    let names = map string_bytes c.args.names.now in
    let outs = c.create_all.new.outs.items in
    let made = c.create_all.ensures in
    ChangesAmong-then made.others (c.close_all.ensures.others names made.named (λ tells.
    created-tell g.H.Shelf g.H.Out.Sink names outs c.requires.apart made.named c.args.shelf.now c.create_all.new.shelf
    (made.created (made.others.tells.0 tells))))

pub returns-clause-created : goal.returns-clause-created
returns-clause-created g c tells n name at =
    created-some g.H.Out.Sink _ (slice_get c.create_all.new.outs.items n) (c.create_all.ensures.created tells n name at)
