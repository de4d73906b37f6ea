use Rattle.aegis_pages.proofs.layout.FileLayout.named.Goals as goal

pub variant_byte-requires : goal.variant_byte-requires
variant_byte-requires g c = c.self.invariant.0
