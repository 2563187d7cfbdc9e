pub mod MirrorLaws
pub mod PieceLaws
pub mod RouteLaws
pub mod ServedLaws
pub mod RightsServed
pub mod StripeLaws
