pub mod Links
pub mod Audit
pub mod HeldAudit
