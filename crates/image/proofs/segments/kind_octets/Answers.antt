-- `image::segments::kind_octets` meets its contract: the parts one behind another, each of which ensures that its numbers fit. Assumes nothing.
use Rattle.std.proofs.Common.{ap, ◌∙◌}
use Rattle.tsar.specs.Layout.{number_of_type}
use Rattle.image.specs.Segments.{length_image, services_image, crc_image, kind_listed}
use Rattle.image.proofs.segments.kind_octets.Goals as goal

pub returns : goal.returns
returns c =
    let m = c.message_length.ensures in
    let s = c.services_in.ensures in
    let t = c.crc.ensures in (
      kind_listed c.args.kind _ _ _ _ (c.from.ensures ∙ ap number_of_type c.segment_type.ensures) (c.length_octets-m.ensures.0 ∙ ap length_image m)
          (c.services_octets-s.ensures ∙ ap services_image s) (c.crc_octets-c.ensures.0 ∙ ap crc_image t),
      record { stated = rw m at c.length_octets-m.ensures.1; crc = rw t at c.crc_octets-c.ensures.1 },
    )
